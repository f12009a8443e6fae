-- `partner_by` compares a result with z as words of 32 bits, as the definition compares two ranks (Allowed).
use Rattle.std.proofs.Common.{w32, FitsSigned, rules}
use Rattle.catalogue.proofs.Allowed.{equal_words}
use Rattle.catalogue.proofs.constraint.Constraint.partner_by.Goals as goal

pub returns : goal.returns
returns g c =
    let fits : FitsSigned w32 c.span-result.result.least = search rules in
    let met = rw (equal_words c.span-result.result.least c.args.z fits c.ranges.z) at c.then_some.ensures in
    search rules
