-- `narrow` computes as the definition does, and that is what the words say (Laws).
use Rattle.catalogue.proofs.Laws.{narrowing}
use Rattle.catalogue.proofs.narrowing.narrow.Goals as goal

pub returns-clause-words : goal.returns-clause-words
returns-clause-words g c =
    narrowing _ (g.met.A.Arithmetic.laws c.args.arithmetic.now) c.args.operation.kind c.args.operation.modes c.args.given c.narrow.result c.narrow.ensures
