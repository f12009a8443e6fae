-- `results` keeps its two ends in 32 bits, so they are those of the definition.
use Rattle.std.proofs.Common.{w32, FitsSigned, rules}
use Rattle.std.proofs.lemmas.Int.{to_z-of_z}
use Rattle.catalogue.proofs.constraint.Constraint.results.Goals as goal

pub returns : goal.returns
returns g c =
    let l : FitsSigned w32 c.span.result.least = search rules in
    let h : FitsSigned w32 c.span-2.result.greatest = search rules in
    rw (to_z-of_z w32 c.span.result.least l, to_z-of_z w32 c.span-2.result.greatest h) (search rules)
