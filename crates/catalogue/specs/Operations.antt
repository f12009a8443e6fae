-- An arithmetic: its readings, and the result of each kind of operation under one rounding mode, all on ranks.
use Rattle.std.specs.Prelude.{Bool, true, false, ◌&&◌, ℤ, ◌≤ℤ◌, FitsSigned, int_le}
use Rattle.std.specs.Int.{int_max, int_min, w32}
use Rattle.catalogue.specs.declared.types.Kind.{Kind}
use Rattle.catalogue.specs.declared.types.Kind.TheVariants.{Sum, Difference, Peak}
use Rattle.catalogue.specs.declared.types.Mode.{Mode}
use Rattle.catalogue.specs.declared.types.Modes.{Modes}
use Rattle.catalogue.specs.declared.types.Range.{Range}
use Rattle.catalogue.specs.declared.types.Span.{Span}
use Rattle.catalogue.specs.Modes.{some_mode, least_of, greatest_of}
use Rattle.catalogue.specs.Ranges.{Holds, holds}

-- the least and the greatest reading, and the result of a kind of operation on two ranks under a mode
pub record Arith : Type 0 where
  pub least : ℤ
  pub greatest : ℤ
  pub result : Kind → Mode → ℤ → ℤ → ℤ

-- every rank from the least to the greatest is a reading
abbrev pub readings : Arith → Range
readings a = record { low = a.least; high = a.greatest }

-- a rank that is a reading
abbrev pub Reading : Arith → ℤ → Type 0
Reading a v = Holds (readings a) v

-- the least and the greatest result among the modes of a set
abbrev pub least_result : Arith → Kind → Modes → ℤ → ℤ → ℤ
least_result a k s x y = least_of s (λ m. a.result k m x y)

abbrev pub greatest_result : Arith → Kind → Modes → ℤ → ℤ → ℤ
greatest_result a k s x y = greatest_of s (λ m. a.result k m x y)

-- the reading nearest to a rank: the rank itself where it is a reading
abbrev pub nearest_reading : Arith → ℤ → ℤ
nearest_reading a v = int_min (int_max v a.least) a.greatest

-- both results; an operand that is no reading counts as the reading nearest to it
abbrev pub span_of : Arith → Kind → Modes → ℤ → ℤ → Span
span_of a k s x y = record {
  least = least_result a k s (nearest_reading a x) (nearest_reading a y);
  greatest = greatest_result a k s (nearest_reading a x) (nearest_reading a y);
}

-- whether the results of a kind fall, and do not rise, as y grows
abbrev pub falls_in_y : Kind → Bool
falls_in_y Sum = false
falls_in_y Difference = true
falls_in_y Peak = false

-- two results in the order that y gives them: the first is no greater, or, where results fall, no less
abbrev pub InOrder : Bool → ℤ → ℤ → Type 0
InOrder false v w = v ≤ℤ w
InOrder true v w = w ≤ℤ v

-- what narrowing rests on: the readings are ranks of 32 bits, and results move one way as an operand grows
pub record ArithLaws (a : Arith) : Type 0 where
  pub fits : FitsSigned w32 a.least × FitsSigned w32 a.greatest
  pub ends : a.least ≤ℤ a.greatest
  pub in_x : (k : Kind) (m : Mode) (x w y : ℤ) → x ≤ℤ w → a.result k m x y ≤ℤ a.result k m w y
  pub in_y : (k : Kind) (m : Mode) (x y w : ℤ) → y ≤ℤ w → InOrder (falls_in_y k) (a.result k m x y) (a.result k m x w)

-- whether two ranks are equal
abbrev pub equal : ℤ → ℤ → Bool
equal v w = int_le v w && int_le w v

-- an allowed triple: readings, z being the result for x and y under some mode of the set
abbrev pub allowed : Arith → Kind → Modes → ℤ → ℤ → ℤ → Bool
allowed a k s x y z =
    (holds (readings a) x && (holds (readings a) y && holds (readings a) z)) && some_mode s (λ m. equal z (a.result k m x y))
