-- The exact sum of two ranks by sign and location, and the rank that a mode makes of it.
use Rattle.std.specs.Prelude.{◌≡◌, ℕ, zero, suc, ◌+◌, ◌-◌, ◌<◌, ◌≤◌, Bool, true, false, ℤ, pos, negsuc, ◌+ℤ◌, neg_ℤ, unsigned_abs, refl}
use Rattle.std.specs.Bool.{beq}
use Rattle.std.proofs.Common.{sym, ap, ◌∙◌, arith}
use Rattle.std.proofs.Math.Dec.{leb-suc-zero}
use Rattle.std.specs.Int.{is_negative}
use Rattle.std.proofs.lemmas.Int.{ints}
use Rattle.catalogue.specs.declared.types.Mode.{Mode}
use Rattle.catalogue.specs.declared.types.Mode.TheVariants.{Nearest, Up, Down, TowardZero}
use Rattle.binary32.specs.declared.types.ExactSum.{ExactSum}
use Rattle.binary32.specs.declared.types.Location.{Location}
use Rattle.binary32.specs.declared.types.Rest.{Rest}
use Rattle.binary32.specs.declared.types.Rest.TheVariants.{Exact}
use Rattle.binary32.specs.Units.{units, with_sign, value, beyond}
use Rattle.binary32.specs.Locations.{Lies, LiesAt, Locates, joined}
use Rattle.binary32.specs.Computed.{floor_of, rest_of, magnitude_by, rank_by, rounded}
use Rattle.binary32.specs.Floors.{units_le}
use Rattle.binary32.specs.Located.{lies_rank, lies_rest}

abbrev below : ℤ → Bool
below (pos n) = false
below (negsuc n) = true

below_zero : (z : ℤ) → is_negative z ≡ below z
below_zero (pos n) = leb-suc-zero n
below_zero (negsuc n) = refl

-- of two ranks the one of larger magnitude has the sum's sign
joins : (x y : ℤ) (l : Location) → unsigned_abs y ≤ unsigned_abs x → LiesAt (joined (beq (below x) (below y)) (units (unsigned_abs x)) (units (unsigned_abs y))) l
    → Locates (value x +ℤ value y) (record { negative = below x; location = l })
joins (pos m) (pos k) l h c = record { size = units m + units k; is = refl; lies = c }
joins (pos m) (negsuc k) l h c = record { size = units m - units (suc k); is = (let u = units_le (suc k) m h in omega (arith, ints)); lies = c }
joins (negsuc m) (pos k) l h c = record { size = units (suc m) - units k; is = (let u = units_le k (suc m) h in omega (arith, ints)); lies = c }
joins (negsuc m) (negsuc k) l h c = record { size = units (suc m) + units (suc k); is = omega (arith, ints); lies = c }

-- the same with the signs and magnitudes that the code finds
pub sum_located : (x y : ℤ) (n o : Bool) (a b : ℕ) (l : Location) → n ≡ is_negative x → o ≡ is_negative y → a ≡ unsigned_abs x → b ≡ unsigned_abs y → unsigned_abs y ≤ unsigned_abs x
    → LiesAt (joined (beq n o) (units a) (units b)) l → Locates (value x +ℤ value y) (record { negative = n; location = l })
sum_located x y n o a b l p q u v h c =
    let sx : n ≡ below x = p ∙ below_zero x in
    let sy : o ≡ below y = q ∙ below_zero y in
    rw sx (joins x y l h (rw (sx, sy, u, v) at c))

-- ---- a mode's rank from a location

floor_zero : floor_of 0 ≡ 0
unfolding floor_of
floor_zero = refl

rest_zero : rest_of 0 ≡ Exact
unfolding rest_of
rest_zero = refl

no_sign : (m : Mode) → neg_ℤ (pos (magnitude_by m true 0 Exact)) ≡ pos (magnitude_by m false 0 Exact)
no_sign Nearest = refl
no_sign Up = refl
no_sign Down = refl
no_sign TowardZero = refl

at : (m : Mode) (b : Bool) (n t : ℕ) (r : Rest) → Lies n t r → with_sign b (magnitude_by m b t r) ≡ rounded m (with_sign b n)
unfolding rounded
at m false n t r c = rw (lies_rank n t r c, lies_rest n t r c)
at m true zero t r c = rw (lies_rank 0 t r c, lies_rest 0 t r c, floor_zero, rest_zero) (no_sign m)
at m true (suc k) t r c = rw (lies_rank (suc k) t r c, lies_rest (suc k) t r c)

pub rank_rounds : (e : ℤ) (s : ExactSum) → Locates e s → (m : Mode) → rank_by s m ≡ rounded m e
rank_rounds e s x m = at m s.negative x.size s.location.rank s.location.rest x.lies ∙ ap (rounded m) (sym x.is)

-- ---- a reading's own value is kept

same : (m : Mode) (b : Bool) (n : ℕ) → n < beyond → magnitude_by m b n Exact ≡ n
same Nearest b n h = omega arith
same Up false n h = omega arith
same Up true n h = omega arith
same Down false n h = omega arith
same Down true n h = omega arith
same TowardZero b n h = omega arith

pub exact : (m : Mode) (r : ℤ) → unsigned_abs r < beyond → rounded m (value r) ≡ r
exact m (pos n) h = sym (at m false (units n) n Exact refl) ∙ ap pos (same m false n h)
exact m (negsuc n) h = sym (at m true (units (suc n)) (suc n) Exact refl) ∙ ap (λ (x : ℕ). neg_ℤ (pos x)) (same m true (suc n) h)
