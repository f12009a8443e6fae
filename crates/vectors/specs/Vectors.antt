-- A published result as a rank, and whether the catalogue agrees with it.
use Rattle.std.specs.Prelude.{ℕ, Bool, false, cond, ℤ, pos, neg_ℤ, Some, None, Option, ◌==◌}
use Rattle.catalogue.specs.declared.types.Kind.{Kind}
use Rattle.catalogue.specs.declared.types.Mode.{Mode}
use Rattle.catalogue.specs.Operations.{equal, nearest_reading}
use Rattle.binary32.specs.Units.{beyond}
use Rattle.binary32.specs.Binary32.{binary32, binary}

-- an infinity lies beyond the readings; any other pattern is read as the catalogue reads it
abbrev pub or_beyond : ℕ → Option ℤ → Option ℤ
or_beyond p (Some r) = Some r
or_beyond p None = cond (p == 0x7F800000) (Some (pos beyond)) (cond (p == 0xFF800000) (Some (neg_ℤ (pos beyond))) None)

abbrev pub expected : ℕ → Option ℤ
expected p = or_beyond p (binary.reads p)

-- whether x and y under one mode give what a pattern stands for
abbrev pub agrees_with : Kind → Mode → Option ℤ → Option ℤ → Option ℤ → Bool
agrees_with k m None y r = false
agrees_with k m (Some x) None r = false
agrees_with k m (Some x) (Some y) None = false
agrees_with k m (Some x) (Some y) (Some r) = equal (binary32.result k m (nearest_reading binary32 x) (nearest_reading binary32 y)) r

abbrev pub agreement : Kind → Mode → ℕ → ℕ → ℕ → Bool
agreement k m x y r = agrees_with k m (binary.reads x) (binary.reads y) (expected r)
