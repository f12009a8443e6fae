-- Operations on readings from 0 to an end, at which sums stop; differences stop at 0. Rounding modes have no effect.
use Rattle.std.specs.Prelude.{ℕ, ℤ, pos, ◌+ℤ◌, ◌-ℤ◌}
use Rattle.std.specs.Int.{int_max, int_min}
use Rattle.catalogue.specs.declared.types.Kind.{Kind}
use Rattle.catalogue.specs.declared.types.Kind.TheVariants.{Sum, Difference, Peak}
use Rattle.catalogue.specs.Operations.{Arith}

-- the result of a kind of operation
abbrev pub stopped : ℕ → Kind → ℤ → ℤ → ℤ
stopped end Sum x y = int_min (x +ℤ y) (pos end)
stopped end Difference x y = int_max (x -ℤ y) (pos 0)
stopped end Peak x y = int_max x y

-- the arithmetic
abbrev pub stopping : ℕ → Arith
stopping end = record { least = pos 0; greatest = pos end; result = λ k m x y. stopped end k x y }
