use Rattle.sheet.proofs.Boards.{standing_of_view}
use Rattle.sheet.proofs.board.Board.standing.Goals as goal

pub returns : goal.returns
returns c = standing_of_view _ _ _ c.self.invariant _ c.self.view_is
