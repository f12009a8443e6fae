use Rattle.std.proofs.lemmas.Nat.{or_lt}
use Rattle.sheet.proofs.PlaceBits.{union_bits}
use Rattle.sheet.proofs.places.Places.union.Goals as goal

pub invariant_of-result : goal.invariant_of-result
invariant_of-result c = or_lt 64 c.self.inside.bits c.other.inside.bits c.self.invariant c.other.invariant

pub returns : goal.returns
returns c = rw (← c.self.view_is, ← c.other.view_is) (union_bits c.self.inside.bits c.other.inside.bits)
