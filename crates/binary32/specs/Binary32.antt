-- Binary32: the arithmetic on ranks, and what the catalogue means.
use Rattle.std.specs.Prelude.{ℤ, pos, ◌+ℤ◌, neg_ℤ}
use Rattle.std.specs.Int.{int_max}
use Rattle.catalogue.specs.declared.types.Kind.{Kind}
use Rattle.catalogue.specs.declared.types.Kind.TheVariants.{Sum, Difference, Peak}
use Rattle.catalogue.specs.declared.types.Mode.{Mode}
use Rattle.catalogue.specs.Operations.{Arith}
use Rattle.catalogue.specs.Meanings.{Meaning, by_ranks}
use Rattle.binary32.specs.Units.{largest, value}
use Rattle.binary32.specs.Patterns.{read, write}
use Rattle.binary32.specs.Computed.{rounded}

-- a sum rounds x + y, a difference x + (-y), and a peak is the larger rank, which needs no rounding
abbrev pub result_of : Kind → Mode → ℤ → ℤ → ℤ
result_of Sum m x y = rounded m (value x +ℤ value y)
result_of Difference m x y = rounded m (value x +ℤ neg_ℤ (value y))
result_of Peak m x y = int_max x y

-- the exact number of units that a result is the rounding of; a peak is the larger reading, whose value is kept
abbrev pub exact_of : Kind → ℤ → ℤ → ℤ
exact_of Sum x y = value x +ℤ value y
exact_of Difference x y = value x +ℤ neg_ℤ (value y)
exact_of Peak x y = value (int_max x y)

-- the arithmetic: its readings, and these results
abbrev pub binary32 : Arith
binary32 = record { least = neg_ℤ (pos largest); greatest = pos largest; result = result_of }

-- what the catalogue means: this arithmetic, and patterns read and written as in Patterns
abbrev pub binary : Meaning
binary = by_ranks binary32 read write
