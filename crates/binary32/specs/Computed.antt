-- Computed: the four roundings in closed form, proved to be those of Rounding.
use Rattle.std.specs.Prelude.{ℕ, suc, ◌+◌, ◌-◌, ◌*◌, ◌/◌, ◌%◌, ◌^◌, min, Bool, true, false, cond, not, ℤ, pos, negsuc, neg_ℤ, ◌==◌, nat_lt}
use Rattle.std.specs.Float.Ieee.{size}
use Rattle.catalogue.specs.declared.types.Mode.{Mode}
use Rattle.catalogue.specs.declared.types.Mode.TheVariants.{Nearest, Up, Down, TowardZero}
use Rattle.catalogue.specs.declared.types.Modes.{Modes}
use Rattle.catalogue.specs.declared.types.Span.{Span}
use Rattle.catalogue.specs.Modes.{has_mode, lesser_if, greater_if}
use Rattle.binary32.specs.declared.types.ExactSum.{ExactSum}
use Rattle.binary32.specs.declared.types.Rest.{Rest}
use Rattle.binary32.specs.declared.types.Rest.TheVariants.{Exact, BelowMiddle, Middle, AboveMiddle}
use Rattle.binary32.specs.Units.{units, beyond, largest, with_sign}

-- the greatest magnitude with at most n units: n cut to its leading 24 bits
unfoldable pub floor_of : ℕ → ℕ
unfolding size
floor_of n = let k = size n - 24 in k * 2 ^ 23 + n / 2 ^ k

-- what n leaves above it
unfoldable pub rest_of : ℕ → Rest
unfolding floor_of units
rest_of n =
    let t = floor_of n in
    let twice-middle = units t + units (suc t) in
    cond (n == units t) Exact (cond (nat_lt (2 * n) twice-middle) BelowMiddle (cond (2 * n == twice-middle) Middle AboveMiddle))

-- the magnitude that each rounding gives at a location: toward zero, at most the largest
abbrev pub toward_zero : ℕ → Rest → ℕ
toward_zero t r = min t largest

-- away from zero: the next magnitude unless the value is exact, at most beyond
abbrev pub from_zero : ℕ → Rest → ℕ
from_zero t Exact = min t beyond
from_zero t BelowMiddle = min (t + 1) beyond
from_zero t Middle = min (t + 1) beyond
from_zero t AboveMiddle = min (t + 1) beyond

-- to nearest: the next magnitude above the middle, and at the middle where that one is even, at most beyond
abbrev pub to_nearest : ℕ → Rest → ℕ
to_nearest t Exact = min t beyond
to_nearest t BelowMiddle = min t beyond
to_nearest t Middle = min (t + t % 2) beyond
to_nearest t AboveMiddle = min (t + 1) beyond

-- away from zero, or toward it
abbrev pub directed_to : Bool → ℕ → Rest → ℕ
directed_to true t r = from_zero t r
directed_to false t r = toward_zero t r

-- by mode and sign: up is away from zero for positive numbers, and down for negative ones
abbrev pub magnitude_by : Mode → Bool → ℕ → Rest → ℕ
magnitude_by Nearest negative t r = to_nearest t r
magnitude_by Up negative t r = directed_to (not negative) t r
magnitude_by Down negative t r = directed_to negative t r
magnitude_by TowardZero negative t r = directed_to false t r

-- the rank that a mode gives for an exact number of units
unfoldable pub rounded : Mode → ℤ → ℤ
unfolding floor_of rest_of
rounded m (pos n) = pos (magnitude_by m false (floor_of n) (rest_of n))
rounded m (negsuc n) = neg_ℤ (pos (magnitude_by m true (floor_of (suc n)) (rest_of (suc n))))

-- the same, from an exact sum's sign and location
abbrev pub rank_by : ExactSum → Mode → ℤ
rank_by s m = with_sign s.negative (magnitude_by m s.negative s.location.rank s.location.rest)

-- a span with one more mode's rank, where the set has the mode
abbrev pub widened : ExactSum → Modes → Span → Mode → Span
widened e s p m = record {
  least = lesser_if (has_mode s m) p.least (rank_by e m);
  greatest = greater_if (has_mode s m) p.greatest (rank_by e m);
}
