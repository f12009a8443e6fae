-- `sum_of`: the sum lies where it is located, and has the sign of the larger magnitude (Signs).
use Rattle.binary32.specs.Signs.{sum_located}
use Rattle.binary32.proofs.sums.sum_of.Goals as goal

pub returns : goal.returns
returns c = sum_located _ _ _ _ _ _ _ c.is_negative-negative.ensures c.is_negative.ensures c.magnitude.ensures.value c.magnitude-2.ensures.value c.requires c.locate.ensures
