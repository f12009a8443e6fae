-- `passes` compares a bound of 32 bits with a result of 32 bits, as the definition compares two ranks (Asking).
use Rattle.std.proofs.Common.{w32, SFits, rules}
use Rattle.std.proofs.lemmas.Int.{to_z-of_z}
use Rattle.catalogue.proofs.Asking.{at_least, at_most}
use Rattle.catalogue.proofs.types.Question.passes.Goals as goal

pub returns-in-AtLeast : goal.returns-in-AtLeast
returns-in-AtLeast g c =
    let f : SFits w32 c.args.self.bound = search rules in
    let h : SFits w32 c.span-span.result.greatest = search rules in
    rw (to_z-of_z w32 c.args.self.bound, to_z-of_z w32 c.span-span.result.greatest)
    (at_least _ _ _ _ c.in-AtLeast.is (rw (to_z-of_z w32 c.args.rank c.ranges.rank) at c.span-span.ensures))

pub returns-in-AtMost : goal.returns-in-AtMost
returns-in-AtMost g c =
    let f : SFits w32 c.args.self.bound = search rules in
    let h : SFits w32 c.span-span.result.least = search rules in
    rw (to_z-of_z w32 c.span-span.result.least, to_z-of_z w32 c.args.self.bound)
    (at_most _ _ _ _ c.in-AtMost.is (rw (to_z-of_z w32 c.args.rank c.ranges.rank) at c.span-span.ensures))
