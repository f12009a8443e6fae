-- A difference is the exact sum with the second reading negated.
use Rattle.binary32.specs.Growing.{value_neg}
use Rattle.binary32.proofs.sums.ReadingSub.sub.Goals as goal

pub returns : goal.returns
returns c = rw (← value_neg c.args.other, ← c.neg.ensures) c.add.ensures
