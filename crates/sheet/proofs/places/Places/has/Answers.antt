use Rattle.std.proofs.Common.{sym}
use Rattle.sheet.proofs.PlaceBits.{in_bits}
use Rattle.sheet.proofs.places.Places.has.Goals as goal

pub returns : goal.returns
returns c = rw (← c.self.view_is, ← c.place.view_is) (sym (in_bits c.self.inside.bits c.place.inside.number c.place.invariant))
