use Rattle.std.proofs.Common.{◌∙◌}
use Rattle.sheet.proofs.Boards.{has_of_view}
use Rattle.sheet.proofs.board.Board.has.Goals as goal

pub returns : goal.returns
returns c = c.has.ensures ∙ has_of_view _ _ _ c.self.invariant _ c.self.view_is c.args.place
