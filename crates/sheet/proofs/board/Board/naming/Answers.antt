use Rattle.std.proofs.Common.{◌∙◌, ap}
use Rattle.sheet.proofs.Boards.{naming_of_view}
use Rattle.sheet.specs.Boards.{places_naming}
use Rattle.sheet.proofs.board.Board.naming.Goals as goal

pub returns : goal.returns
returns c = naming_of_view _ _ _ c.self.invariant _ c.self.view_is c.index.result _ c.index.ensures.below ∙ ap (λ r. places_naming r c.args.self.now) c.index.ensures.value
