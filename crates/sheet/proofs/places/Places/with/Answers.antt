use Rattle.std.proofs.Common.{arith}
use Rattle.std.proofs.lemmas.Nat.{or_lt}
use Rattle.sheet.proofs.PlaceBits.{with_bit}
use Rattle.sheet.proofs.places.Places.with.Goals as goal

pub invariant_of-result : goal.invariant_of-result
invariant_of-result c = or_lt 64 c.self.inside.bits _ c.self.invariant (omega arith)

pub returns : goal.returns
returns c = rw (← c.self.view_is, ← c.place.view_is) (with_bit c.self.inside.bits c.place.inside.number c.place.invariant)
