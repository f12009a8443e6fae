-- The order of the four roundings of one exact number of units.
use Rattle.std.specs.Prelude.{ℕ, suc, ◌≤◌, Bool, true, false, ℤ, pos, negsuc, neg_ℤ, ◌≤ℤ◌}
use Rattle.std.proofs.Common.{arith}
use Rattle.std.proofs.lemmas.Int.{ints}
use Rattle.catalogue.specs.declared.types.Mode.{Mode}
use Rattle.catalogue.specs.declared.types.Mode.TheVariants.{Nearest, Up, Down, TowardZero}
use Rattle.binary32.specs.declared.types.Rest.{Rest}
use Rattle.binary32.specs.declared.types.Rest.TheVariants.{Exact, BelowMiddle, Middle, AboveMiddle}
use Rattle.binary32.specs.Units.{with_sign}
use Rattle.binary32.specs.Computed.{floor_of, rest_of, toward_zero, from_zero, to_nearest, magnitude_by, rounded}
use Rattle.binary32.specs.Growing.{neg_le, pos_le}

toward_nearest : (t : ℕ) (r : Rest) → toward_zero t r ≤ to_nearest t r
toward_nearest t Exact = omega arith
toward_nearest t BelowMiddle = omega arith
toward_nearest t Middle = omega arith
toward_nearest t AboveMiddle = omega arith

nearest_from : (t : ℕ) (r : Rest) → to_nearest t r ≤ from_zero t r
nearest_from t Exact = omega arith
nearest_from t BelowMiddle = omega arith
nearest_from t Middle = omega arith
nearest_from t AboveMiddle = omega arith

toward_from : (t : ℕ) (r : Rest) → toward_zero t r ≤ from_zero t r
toward_from t r = omega (arith, toward_nearest t r, nearest_from t r)

alike : (v : ℤ) → v ≤ℤ v
alike v = omega (arith, ints)

-- rounding down gives the least rank, rounding up the greatest
pub down_least : (b : Bool) (t : ℕ) (r : Rest) (m : Mode) → with_sign b (magnitude_by Down b t r) ≤ℤ with_sign b (magnitude_by m b t r)
down_least true t r Nearest = neg_le _ _ (nearest_from t r)
down_least true t r Up = neg_le _ _ (toward_from t r)
down_least true t r Down = alike _
down_least true t r TowardZero = neg_le _ _ (toward_from t r)
down_least false t r Nearest = pos_le _ _ (toward_nearest t r)
down_least false t r Up = pos_le _ _ (toward_from t r)
down_least false t r Down = alike _
down_least false t r TowardZero = alike _

pub up_greatest : (b : Bool) (t : ℕ) (r : Rest) (m : Mode) → with_sign b (magnitude_by m b t r) ≤ℤ with_sign b (magnitude_by Up b t r)
up_greatest true t r Nearest = neg_le _ _ (toward_nearest t r)
up_greatest true t r Up = alike _
up_greatest true t r Down = neg_le _ _ (toward_from t r)
up_greatest true t r TowardZero = alike _
up_greatest false t r Nearest = pos_le _ _ (nearest_from t r)
up_greatest false t r Up = alike _
up_greatest false t r Down = pos_le _ _ (toward_from t r)
up_greatest false t r TowardZero = pos_le _ _ (toward_from t r)

-- the same of the ranks that are computed
pub down_below : (m : Mode) (e : ℤ) → rounded Down e ≤ℤ rounded m e
unfolding rounded
down_below m (pos n) = down_least false (floor_of n) (rest_of n) m
down_below m (negsuc n) = down_least true (floor_of (suc n)) (rest_of (suc n)) m

pub below_up : (m : Mode) (e : ℤ) → rounded m e ≤ℤ rounded Up e
unfolding rounded
below_up m (pos n) = up_greatest false (floor_of n) (rest_of n) m
below_up m (negsuc n) = up_greatest true (floor_of (suc n)) (rest_of (suc n)) m
