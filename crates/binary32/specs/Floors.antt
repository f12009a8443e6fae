-- The units of a magnitude: by scale and significand, rising, and the greatest magnitude at or below a number of units.
use Rattle.std.specs.Prelude.{◌≡◌, ℕ, zero, suc, ◌+◌, ◌-◌, ◌*◌, ◌/◌, ◌%◌, ◌^◌, ◌<◌, ◌≤◌}
use Rattle.std.proofs.Common.{sym, ap, ◌∙◌, ⊎_elim, arith, add-mul, mul-one, div-lt_iff_lt-mul, le-div_iff_mul-le, div-mul-le_self, lt_of_lt_of_le, add-zero, add-suc, pow_pos, pow-add, pow_mono}
use Rattle.std.proofs.Math.Nat.{two-pow-succ, lt-div-mul-add}
use Rattle.std.proofs.Math.Dec.{eqb-suc-zero}
use Rattle.std.specs.Float.Ieee.{size}
use Rattle.std.specs.Float.Ieee.Digits.{size-lt, size_reaches}
use Rattle.std.proofs.lemmas.Bool.Decides.{nat_tests}
use Rattle.std.proofs.lemmas.Bool.{cases_lt}
use Rattle.binary32.specs.Units.{units}
use Rattle.binary32.specs.Computed.{floor_of}

pub units_low : (m : ℕ) → m < 2 ^ 23 → units m ≡ m
unfolding units
units_low m h = grind (arith, nat_tests)

pub units_by : (m e f : ℕ) → m / 2 ^ 23 ≡ suc e → m % 2 ^ 23 ≡ f → units m ≡ (2 ^ 23 + f) * 2 ^ e
unfolding units
units_by m e f p q = let s : suc e - 1 ≡ e = omega arith in rw (p, q, eqb-suc-zero e, s)

-- by scale k and significand q; a significand of 2 ^ 24 is the first of the next exponent field
pub units_at : (k q : ℕ) → 2 ^ 23 ≤ q → q ≤ 2 ^ 24 → units (k * 2 ^ 23 + q) ≡ q * 2 ^ k
units_at k q a b = ⊎_elim low high (cases_lt q (2 ^ 24))
  where
    low : q < 2 ^ 24 → units (k * 2 ^ 23 + q) ≡ q * 2 ^ k
    low h =
        units_by (k * 2 ^ 23 + q) k (q - 2 ^ 23) (omega arith) (omega arith)
        ∙ ap (λ (x : ℕ). x * 2 ^ k) (omega arith)

    high : 2 ^ 24 ≤ q → units (k * 2 ^ 23 + q) ≡ q * 2 ^ k
    high h =
        let e : q ≡ 2 ^ 24 = omega arith in
        units_by (k * 2 ^ 23 + q) (suc k) 0 (omega arith) (omega arith)
        ∙ omega (arith, two-pow-succ k, ap (λ (x : ℕ). x * 2 ^ k) e)

pub units_small : (q : ℕ) → q ≤ 2 ^ 24 → units q ≡ q
units_small q b = ⊎_elim (units_low q) high (cases_lt q (2 ^ 23))
  where
    high : 2 ^ 23 ≤ q → units q ≡ q
    high h = let e : q ≡ 0 * 2 ^ 23 + q = omega arith in ap units e ∙ units_at 0 q h b ∙ mul-one q

pub units_suc : (m : ℕ) → units (suc m) ≡ units m + 2 ^ (m / 2 ^ 23 - 1)
units_suc m = ⊎_elim low high (cases_lt m (2 ^ 23))
  where
    low : m < 2 ^ 23 → units (suc m) ≡ units m + 2 ^ (m / 2 ^ 23 - 1)
    low h =
        let z : m / 2 ^ 23 - 1 ≡ 0 = omega arith in
        omega (arith, units_small m (omega arith), units_small (suc m) (omega arith), ap (λ (x : ℕ). 2 ^ x) z)

    high : 2 ^ 23 ≤ m → units (suc m) ≡ units m + 2 ^ (m / 2 ^ 23 - 1)
    high h =
        let k = m / 2 ^ 23 - 1 in
        let q = m - k * 2 ^ 23 in
        let a : k * 2 ^ 23 + q ≡ m = omega arith in
        let b : k * 2 ^ 23 + suc q ≡ suc m = omega arith in
        ap units (sym b) ∙ units_at k (suc q) (omega arith) (omega arith)
        ∙ omega (arith, add-mul q 1 (2 ^ k), units_at k q (omega arith) (omega arith), ap units a)

-- the same for subnormal numbers too, whose scale is 0 and whose significand lacks the leading bit
pub units_parts : (k q : ℕ) → (0 < k → 2 ^ 23 ≤ q) → q ≤ 2 ^ 24 → units (k * 2 ^ 23 + q) ≡ q * 2 ^ k
units_parts k q a b = ⊎_elim high low (cases_lt 0 k)
  where
    high : 0 < k → units (k * 2 ^ 23 + q) ≡ q * 2 ^ k
    high h = units_at k q (a h) b

    low : k ≤ 0 → units (k * 2 ^ 23 + q) ≡ q * 2 ^ k
    low h =
        let z : k ≡ 0 = omega arith in
        let m : k * 2 ^ 23 + q ≡ q = omega arith in
        ap units m ∙ units_small q b ∙ sym (mul-one q) ∙ ap (λ (x : ℕ). q * 2 ^ x) (sym z)

-- n has 24 leading bits above k others, or k is 0 and n has no more than 24
pub record Placed (n k : ℕ) : Type 0 where
  pub under : n < 2 ^ (24 + k)
  pub over : 0 < k → 2 ^ (23 + k) ≤ n

-- t is the greatest magnitude at or below n units
pub record Floor (n t : ℕ) : Type 0 where
  pub le : units t ≤ n
  pub lt : n < units (suc t)

module _ (n k : ℕ) (p : Placed n k) where
  q_top : n / 2 ^ k < 2 ^ 24
  q_top = (div-lt_iff_lt-mul (pow_pos k)).1 (omega (arith, p.under, pow-add 2 24 k))

  q_low : 0 < k → 2 ^ 23 ≤ n / 2 ^ k
  q_low h = (le-div_iff_mul-le (pow_pos k)).1 (omega (arith, p.over h, pow-add 2 23 k))

  pub placed_units : units (k * 2 ^ 23 + n / 2 ^ k) ≡ n / 2 ^ k * 2 ^ k
  placed_units = units_parts k (n / 2 ^ k) q_low (omega (arith, q_top))

  pub placed_next : units (suc (k * 2 ^ 23 + n / 2 ^ k)) ≡ n / 2 ^ k * 2 ^ k + 2 ^ k
  placed_next =
      let e : suc (k * 2 ^ 23 + n / 2 ^ k) ≡ k * 2 ^ 23 + suc (n / 2 ^ k) = omega arith in
      ap units e
      ∙ units_parts k (suc (n / 2 ^ k)) (λ h. omega (arith, q_low h)) (omega (arith, q_top))
      ∙ omega (arith, add-mul (n / 2 ^ k) 1 (2 ^ k))

  pub placed_floor : Floor n (k * 2 ^ 23 + n / 2 ^ k)
  placed_floor = record {
    le = omega (arith, placed_units, div-mul-le_self n (2 ^ k));
    lt = omega (arith, placed_next, lt-div-mul-add {a = n} (pow_pos k));
  }

pub size_placed : (n : ℕ) → Placed n (size n - 24)
size_placed n = record {
  under = lt_of_lt_of_le (size-lt n) (pow_mono (omega arith));
  over = λ h. size_reaches n (23 + (size n - 24)) (omega arith);
}

pub floor_is : (n : ℕ) → Floor n (floor_of n)
unfolding floor_of
floor_is n = placed_floor n (size n - 24) (size_placed n)

-- ---- order

pub units_mono : (a d : ℕ) → units a ≤ units (a + d)
units_mono a zero = omega (arith, ap units (add-zero a))
units_mono a (suc d) = omega (arith, units_mono a d, units_suc (a + d), ap units (add-suc a d))

pub units_le : (a b : ℕ) → a ≤ b → units a ≤ units b
units_le a b h = let e : a + (b - a) ≡ b = omega arith in omega (arith, units_mono a (b - a), ap units e)

pub units_lt : (a b : ℕ) → a < b → units a < units b
units_lt a b h = omega (arith, units_le (suc a) b h, units_suc a, pow_pos (a / 2 ^ 23 - 1))

-- what has at most n units is at or below t
pub floor_iff : (n t m : ℕ) → Floor n t → units m ≤ n → m ≤ t
floor_iff n t m f h = ⊎_elim (λ (l : t < m). absurd (contra l)) (λ l. l) (cases_lt t m)
  where
    contra : t < m → ⊥
    contra l = omega (arith, units_le (suc t) m l, f.lt)

pub floor_unique : (n t s : ℕ) → Floor n t → Floor n s → t ≡ s
floor_unique n t s f g = omega (arith, floor_iff n t s f g.le, floor_iff n s t g f.le)
