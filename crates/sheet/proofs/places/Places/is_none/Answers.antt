use Rattle.sheet.proofs.PlaceBits.{is_zero}
use Rattle.sheet.proofs.places.Places.is_none.Goals as goal

pub returns : goal.returns
returns c = rw (← c.self.view_is) (is_zero c.self.inside.bits c.self.invariant)
