-- Rounding: which rank each rounding-direction attribute of IEEE 754-2019, 4.3, gives for an exact number of units, said with readings.
-- The ranks of beyond, of either sign, stand where the standard has its infinities; the sign of a zero is not kept.
use Rattle.std.specs.Prelude.{◌≡◌, ℕ, ◌-◌, ◌*◌, ◌%◌, ◌^◌, ◌<◌, ◌≤◌, ◌≢◌, ◌⊎◌, ℤ, pos, negsuc, ◌-ℤ◌, neg_ℤ, ◌≤ℤ◌, ◌<ℤ◌, unsigned_abs}
use Rattle.catalogue.specs.declared.types.Mode.{Mode}
use Rattle.catalogue.specs.declared.types.Mode.TheVariants.{Nearest, Up, Down, TowardZero}
use Rattle.binary32.specs.Units.{beyond, value, Reading}

-- r is the least reading at or above e
pub record LeastAtOrAbove (e r : ℤ) : Type 0 where
  pub reading : Reading r
  pub above : e ≤ℤ value r
  pub least : (s : ℤ) → Reading s → e ≤ℤ value s → r ≤ℤ s

-- r is the greatest reading at or below e
pub record GreatestAtOrBelow (e r : ℤ) : Type 0 where
  pub reading : Reading r
  pub below : value r ≤ℤ e
  pub greatest : (s : ℤ) → Reading s → value s ≤ℤ e → s ≤ℤ r

-- roundTowardPositive: the least reading at or above, or beyond if there is none
abbrev pub RoundsUp : ℤ → ℤ → Type 0
RoundsUp e r = LeastAtOrAbove e r ⊎ ((r ≡ pos beyond) × ((s : ℤ) → Reading s → value s <ℤ e))

-- roundTowardNegative: the greatest reading at or below, or beyond on the negative side if there is none
abbrev pub RoundsDown : ℤ → ℤ → Type 0
RoundsDown e r = GreatestAtOrBelow e r ⊎ ((r ≡ neg_ℤ (pos beyond)) × ((s : ℤ) → Reading s → e <ℤ value s))

-- roundTowardZero: down from zero upward, and up below zero
abbrev pub RoundsTowardZero : ℤ → ℤ → Type 0
RoundsTowardZero (pos n) r = RoundsDown (pos n) r
RoundsTowardZero (negsuc n) r = RoundsUp (negsuc n) r

-- how far a reading lies from e
abbrev pub distance : ℤ → ℤ → ℕ
distance e r = unsigned_abs (e -ℤ value r)

-- no reading is nearer to e than r, and where another is as near, r is even
pub record NearestToEven (e r : ℤ) : Type 0 where
  pub reading : Reading r
  pub nearest : (s : ℤ) → Reading s → distance e r ≤ distance e s
  pub even : (s : ℤ) → Reading s → s ≢ r → distance e r ≡ distance e s → unsigned_abs r % 2 ≡ 0

-- from here on an exact magnitude overflows: halfway from the largest reading to the next power of two
abbrev pub overflow : ℕ
overflow = (2 ^ 25 - 1) * 2 ^ 252

-- beyond, on e's side
abbrev pub beyond_at : ℤ → ℤ
beyond_at (pos n) = pos beyond
beyond_at (negsuc n) = neg_ℤ (pos beyond)

-- roundTiesToEven, with its overflow
abbrev pub RoundsToNearest : ℤ → ℤ → Type 0
RoundsToNearest e r = ((unsigned_abs e < overflow) × NearestToEven e r) ⊎ ((overflow ≤ unsigned_abs e) × (r ≡ beyond_at e))

-- the four modes
abbrev pub Rounds : Mode → ℤ → ℤ → Type 0
Rounds Nearest e r = RoundsToNearest e r
Rounds Up e r = RoundsUp e r
Rounds Down e r = RoundsDown e r
Rounds TowardZero e r = RoundsTowardZero e r
