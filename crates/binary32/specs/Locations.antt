-- Locations: where an exact magnitude lies among the magnitudes of ranks. All four roundings follow from it.
use Rattle.std.specs.Prelude.{◌≡◌, ℕ, suc, ◌+◌, ◌-◌, ◌*◌, ◌^◌, ◌<◌, Bool, true, false, cond, ℤ}
use Rattle.binary32.specs.declared.types.ExactSum.{ExactSum}
use Rattle.binary32.specs.declared.types.Location.{Location}
use Rattle.binary32.specs.declared.types.Rest.{Rest}
use Rattle.binary32.specs.declared.types.Rest.TheVariants.{Exact, BelowMiddle, Middle, AboveMiddle}
use Rattle.binary32.specs.Units.{exponent_of, units, with_sign}

-- n units lie at the magnitude t, or between t and the next: below, at or above the middle
abbrev pub Lies : ℕ → ℕ → Rest → Type 0
Lies n t Exact = n ≡ units t
Lies n t BelowMiddle = (units t < n) × (2 * n < units t + units (suc t))
Lies n t Middle = 2 * n ≡ units t + units (suc t)
Lies n t AboveMiddle = (units t + units (suc t) < 2 * n) × (n < units (suc t))

abbrev pub LiesAt : ℕ → Location → Type 0
LiesAt n l = Lies n l.rank l.rest

-- e has the sign of an exact sum, and its magnitude lies at the sum's location
pub record Locates (e : ℤ) (s : ExactSum) : Type 0 where
  pub size : ℕ
  pub is : e ≡ with_sign s.negative size
  pub lies : LiesAt size s.location

-- a magnitude is its significand times 2 to its scale
abbrev pub scale_of : ℕ → ℕ
scale_of m = exponent_of m - 1

abbrev pub significand_of : ℕ → ℕ
significand_of m = m - scale_of m * 2 ^ 23

-- the sum of two magnitudes of like sign, or the difference of unlike ones
abbrev pub joined : Bool → ℕ → ℕ → ℕ
joined like a b = cond like (a + b) (a - b)

-- what dropped bits make, by half of what the last kept bit counts
abbrev pub Drops : ℕ → ℕ → Rest → Type 0
Drops d half Exact = d ≡ 0
Drops d half BelowMiddle = (0 < d) × (d < half)
Drops d half Middle = d ≡ half
Drops d half AboveMiddle = half < d

-- just above a magnitude, or just below it
abbrev pub just_off : Bool → ℕ → Location
just_off true t = record { rank = t; rest = BelowMiddle }
just_off false t = record { rank = t - 1; rest = AboveMiddle }
