-- Values of ranks rise with the ranks, and roundings never fall as the exact number grows.
use Rattle.std.specs.Prelude.{◌≡◌, ℕ, zero, suc, ◌≤◌, Bool, true, false, ℤ, pos, negsuc, neg_ℤ, ◌≤ℤ◌, refl}
use Rattle.std.proofs.Common.{sym, arith}
use Rattle.std.proofs.Math.IntN.{neg_ℤ-neg_ℤ}
use Rattle.std.proofs.lemmas.Int.{ints}
use Rattle.catalogue.specs.declared.types.Mode.{Mode}
use Rattle.catalogue.specs.declared.types.Mode.TheVariants.{Nearest, Up, Down, TowardZero}
use Rattle.binary32.specs.Units.{units, value}
use Rattle.binary32.specs.Computed.{floor_of, rest_of, magnitude_by, rounded}
use Rattle.binary32.specs.Floors.{units_le, units_low}
use Rattle.binary32.specs.Located.{rest_lies, toward_mono, away_mono, nearer_mono}

module _ (a b : ℕ) (le : a ≤ b) where
  pub magnitude_mono : (m : Mode) (s : Bool) → magnitude_by m s (floor_of a) (rest_of a) ≤ magnitude_by m s (floor_of b) (rest_of b)
  magnitude_mono Nearest s = nearer_mono a b le _ _ _ _ (rest_lies a) (rest_lies b)
  magnitude_mono Up false = away_mono a b le _ _ _ _ (rest_lies a) (rest_lies b)
  magnitude_mono Up true = toward_mono a b le _ _ _ _ (rest_lies a) (rest_lies b)
  magnitude_mono Down false = toward_mono a b le _ _ _ _ (rest_lies a) (rest_lies b)
  magnitude_mono Down true = away_mono a b le _ _ _ _ (rest_lies a) (rest_lies b)
  magnitude_mono TowardZero s = toward_mono a b le _ _ _ _ (rest_lies a) (rest_lies b)

pub neg_le : (x y : ℕ) → y ≤ x → neg_ℤ (pos x) ≤ℤ neg_ℤ (pos y)
neg_le x y h = omega (arith, ints)

neg_pos : (x y : ℕ) → neg_ℤ (pos x) ≤ℤ pos y
neg_pos x y = omega (arith, ints)

pub pos_le : (x y : ℕ) → x ≤ y → pos x ≤ℤ pos y
pos_le x y h = omega (arith, ints)

pub rounded_mono : (m : Mode) (e f : ℤ) → e ≤ℤ f → rounded m e ≤ℤ rounded m f
unfolding rounded
rounded_mono m (pos a) (pos b) h = pos_le _ _ (magnitude_mono a b (omega (arith, ints)) m false)
rounded_mono m (pos a) (negsuc b) h = absurd h.le
rounded_mono m (negsuc a) (pos b) h = neg_pos _ _
rounded_mono m (negsuc a) (negsuc b) h = neg_le _ _ (magnitude_mono (suc b) (suc a) (omega (arith, ints)) m true)

pub value_mono : (x y : ℤ) → x ≤ℤ y → value x ≤ℤ value y
value_mono (pos a) (pos b) h = pos_le _ _ (units_le a b (omega (arith, ints)))
value_mono (pos a) (negsuc b) h = absurd h.le
value_mono (negsuc a) (pos b) h = neg_pos _ _
value_mono (negsuc a) (negsuc b) h = neg_le _ _ (units_le (suc b) (suc a) (omega (arith, ints)))

pub value_neg : (x : ℤ) → value (neg_ℤ x) ≡ neg_ℤ (value x)
value_neg (pos zero) = let z : units 0 ≡ 0 = units_low 0 (omega arith) in omega (arith, ints, z)
value_neg (pos (suc n)) = refl
value_neg (negsuc n) = sym (neg_ℤ-neg_ℤ (pos (units (suc n))))
