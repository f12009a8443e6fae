use Rattle.sheet.proofs.PlaceBits.{without_bit}
use Rattle.sheet.proofs.places.Places.without.Goals as goal

pub returns : goal.returns
returns c = rw (← c.self.view_is, ← c.place.view_is) (without_bit c.self.inside.bits c.place.inside.number c.place.invariant)
