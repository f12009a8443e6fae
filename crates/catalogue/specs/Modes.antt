-- Sets of rounding modes: a sum of 1 (nearest), 2 (up), 4 (down) and 8 (toward zero).
use Rattle.std.specs.Prelude.{◌/◌, ◌%◌, Bool, cond, ◌&&◌, ◌||◌, ℤ, ◌==◌}
use Rattle.std.specs.Int.{int_max, int_min}
use Rattle.catalogue.specs.declared.types.Mode.{Mode}
use Rattle.catalogue.specs.declared.types.Mode.TheVariants.{Nearest, Up, Down, TowardZero}
use Rattle.catalogue.specs.declared.types.Modes.{Modes}

-- whether a set has a mode
abbrev pub has_mode : Modes → Mode → Bool
has_mode s Nearest = s.bits % 2 == 1
has_mode s Up = s.bits / 2 % 2 == 1
has_mode s Down = s.bits / 4 % 2 == 1
has_mode s TowardZero = s.bits / 8 % 2 == 1

-- whether some mode of a set passes a test
abbrev pub some_mode : Modes → (Mode → Bool) → Bool
some_mode s p =
    (has_mode s Nearest && p Nearest) || ((has_mode s Up && p Up) || ((has_mode s Down && p Down) || (has_mode s TowardZero && p TowardZero)))

-- the set's first mode, in the order above; toward zero for a set with none
abbrev pub first_mode : Modes → Mode
first_mode s = cond (has_mode s Nearest) Nearest (cond (has_mode s Up) Up (cond (has_mode s Down) Down TowardZero))

-- the lesser of two ranks where the test holds, else the first
abbrev pub lesser_if : Bool → ℤ → ℤ → ℤ
lesser_if b v w = cond b (int_min v w) v

-- the greater of two ranks where the test holds, else the first
abbrev pub greater_if : Bool → ℤ → ℤ → ℤ
greater_if b v w = cond b (int_max v w) v

-- the least rank that a mode of the set gives
unfoldable pub least_of : Modes → (Mode → ℤ) → ℤ
least_of s f =
    lesser_if (has_mode s TowardZero)
    (lesser_if (has_mode s Down) (lesser_if (has_mode s Up) (f (first_mode s)) (f Up)) (f Down))
    (f TowardZero)

-- the greatest rank that a mode of the set gives
unfoldable pub greatest_of : Modes → (Mode → ℤ) → ℤ
greatest_of s f =
    greater_if (has_mode s TowardZero)
    (greater_if (has_mode s Down) (greater_if (has_mode s Up) (f (first_mode s)) (f Up)) (f Down))
    (f TowardZero)

-- the set of one mode alone
abbrev pub only : Mode → Modes
only Nearest = record { bits = 1 }
only Up = record { bits = 2 }
only Down = record { bits = 4 }
only TowardZero = record { bits = 8 }
