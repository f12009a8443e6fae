-- `agrees` compares a rounding with what is expected as words of 32 bits, as the definition compares two ranks (Allowed).
use Rattle.std.proofs.Common.{w32, FitsSigned, rules}
use Rattle.catalogue.proofs.Allowed.{equal_words}
use Rattle.vectors.proofs.agrees.Goals as goal

pub returns-in-Some-Some-Some : goal.returns-in-Some-Some-Some
returns-in-Some-Some-Some c =
    let rounded : FitsSigned w32 c.round.result = search rules in
    let expected : FitsSigned w32 c.in-Some-Some-Some.expected = search rules in
    rw (equal_words c.round.result c.in-Some-Some-Some.expected rounded expected) (search rules)
