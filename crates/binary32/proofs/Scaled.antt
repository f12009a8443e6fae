-- Where s times 2 ^ k lies, for a sum s that fits the machine.
use Rattle.std.proofs.Common.{◌≡◌, ℕ, suc, ◌+◌, ◌-◌, ◌*◌, ◌/◌, ◌^◌, ◌<◌, ◌≤◌, min, sym, ap, ◌∙◌, subst, ⊎_elim, lt_of_lt_of_le, mul-le-mul_right, mod-lt, mul_assoc, mul_comm, add-mul, mul-lt-mul_of_pos_right, mul-pos, one-mul, div-add-mod', zero-mul, arith, pow_pos, pow_mono, pow-add}
use native.Mathlib.Nat.{two-pow-succ, mul-div-mul_right}
use Rattle.std.proofs.lemmas.Bool.{cases_lt}
use Rattle.binary32.specs.declared.types.Rest.{Rest}
use Rattle.binary32.specs.declared.types.Rest.TheVariants.{Exact, BelowMiddle, Middle, AboveMiddle}
use Rattle.binary32.specs.Units.{units}
use Rattle.binary32.specs.Locations.{Lies, Drops}
use Rattle.binary32.specs.Floors.{Placed, placed_units, placed_next, units_parts}
use lib.Count.{count_leading_zeros}
use Rattle.std.proofs.lemmas.Nat.{leading_length, shl_below, shr_below}

-- d low bits of s are dropped
module _ (s k d : ℕ) (top : s < 2 ^ (24 + d)) (bot : 2 ^ (23 + d) ≤ s) (some : 0 < d) where
  abbrev P : ℕ
  P = 2 ^ k

  abbrev q : ℕ
  q = s / 2 ^ d

  abbrev l : ℕ
  l = s - s / 2 ^ d * 2 ^ d

  abbrev h : ℕ
  h = 2 ^ (d - 1)

  gap : 2 ^ (k + d) ≡ h * P + h * P
  gap =
      let e : suc (d - 1) ≡ d = omega arith in
      pow-add 2 k d ∙ mul_comm P (2 ^ d) ∙ ap (λ (x : ℕ). x * P) (sym (ap (λ (x : ℕ). 2 ^ x) e) ∙ two-pow-succ (d - 1)) ∙ add-mul h h P

  parts : s * P ≡ q * 2 ^ (k + d) + l * P
  parts =
      let e : s ≡ q * 2 ^ d + l = omega (arith, div-add-mod' s (2 ^ d)) in
      ap (λ (x : ℕ). x * P) e ∙ add-mul (q * 2 ^ d) l P
      ∙ ap (λ (x : ℕ). x + l * P) (mul_assoc q (2 ^ d) P ∙ ap (λ (x : ℕ). q * x) (mul_comm (2 ^ d) P ∙ sym (pow-add 2 k d)))

  same : s * P / 2 ^ (k + d) ≡ q
  same = ap (λ (x : ℕ). s * P / x) (pow-add 2 k d ∙ mul_comm P (2 ^ d)) ∙ mul-div-mul_right s (2 ^ d) (pow_pos k)

  place : Placed (s * P) (k + d)
  place = record {
    under =
        let e : 24 + (k + d) ≡ (24 + d) + k = omega arith in
        subst (λ (x : ℕ). s * P < x) (sym (ap (λ (x : ℕ). 2 ^ x) e ∙ pow-add 2 (24 + d) k)) (mul-lt-mul_of_pos_right top (pow_pos k));
    over = λ _.
        let e : 23 + (k + d) ≡ (23 + d) + k = omega arith in
        subst (λ (x : ℕ). x ≤ s * P) (sym (ap (λ (x : ℕ). 2 ^ x) e ∙ pow-add 2 (23 + d) k)) (mul-le-mul_right P bot);
  }

  abbrev t : ℕ
  t = (k + d) * 2 ^ 23 + q

  at : units t ≡ q * 2 ^ (k + d)
  at = subst (λ (x : ℕ). units ((k + d) * 2 ^ 23 + x) ≡ x * 2 ^ (k + d)) same (placed_units (s * P) (k + d) place)

  next : units (suc t) ≡ q * 2 ^ (k + d) + 2 ^ (k + d)
  next = subst (λ (x : ℕ). units (suc ((k + d) * 2 ^ 23 + x)) ≡ x * 2 ^ (k + d) + 2 ^ (k + d)) same (placed_next (s * P) (k + d) place)

  left : l < h + h
  left =
      let e : suc (d - 1) ≡ d = omega arith in
      omega (arith, div-add-mod' s (2 ^ d), mod-lt s (pow_pos d), two-pow-succ (d - 1), ap (λ (x : ℕ). 2 ^ x) e)

  pub scaled_lies : (r : Rest) → Drops l h r → Lies (s * P) t r
  scaled_lies Exact e = omega (arith, parts, at, ap (λ (x : ℕ). x * P) e ∙ zero-mul P)
  scaled_lies BelowMiddle e =
      (omega (arith, parts, at, mul-pos e.0 (pow_pos k)), omega (arith, parts, at, next, gap, mul-lt-mul_of_pos_right e.1 (pow_pos k)))
  scaled_lies Middle e = omega (arith, parts, at, next, gap, ap (λ (x : ℕ). x * P) e)
  scaled_lies AboveMiddle e =
      (omega (arith, parts, at, next, gap, mul-lt-mul_of_pos_right e (pow_pos k)), omega (arith, parts, at, next, gap, add-mul h h P, mul-lt-mul_of_pos_right left (pow_pos k)))

-- s has w bits, by the machine's count of leading zeros
pub record Wide (s w : ℕ) : Type 0 where
  pub under : s < 2 ^ w
  pub over : 0 < s → 2 ^ (w - 1) ≤ s
  pub most : w ≤ 64

pub wide_some : {s w : ℕ} → Wide s w → 0 < s → 0 < w
wide_some {s} {w} f h = ⊎_elim (λ (z : 0 < w). z) (λ z. let g : w ≡ 0 = omega arith in omega (arith, f.under, ap (λ (x : ℕ). 2 ^ x) g)) (cases_lt 0 w)

pub wide : (s : ℕ) → s < 2 ^ 64 → Wide s (64 - count_leading_zeros 64 s)
wide s f =
    let p = leading_length 64 s f in
    let e : 64 - count_leading_zeros 64 s ≡ p.0 = omega (arith, p.1) in
    let ok : Wide s p.0 = record {
      under = p.2;
      over = λ h. ⊎_elim (λ (z : 0 < p.0).
          let g : suc (p.0 - 1) ≡ p.0 = omega arith in
          omega (arith, p.3, two-pow-succ (p.0 - 1), ap (λ (x : ℕ). 2 ^ x) g)) (λ z. let g : p.0 ≡ 0 = omega arith in omega (arith, p.2, ap (λ (x : ℕ). 2 ^ x) g)) (cases_lt 0 p.0);
      most = omega (arith, p.1);
    } in
    subst (λ (x : ℕ). Wide s x) (sym e) ok

-- a sum of at most 24 bits moves up, by the scale at most
module _ (s k w u : ℕ) (f : Wide s w) (pos : 0 < s) (few : w ≤ 24) (ku : k < 254) (is : u ≡ min (24 - w) k) where
  pub up_top : s * 2 ^ u < 2 ^ 24
  up_top = let g : w + u ≤ 24 = omega arith in lt_of_lt_of_le (shl_below s w u f.under) (pow_mono g)

  up_bot : 0 < k - u → 2 ^ 23 ≤ s * 2 ^ u
  up_bot h =
      let e : (w - 1) + u ≡ 23 = omega (arith, wide_some f pos) in
      omega (arith, pow-add 2 (w - 1) u, ap (λ (x : ℕ). 2 ^ x) e, mul-le-mul_right (2 ^ u) (f.over pos))

  pub up_exact : s * 2 ^ k ≡ units ((k - u) * 2 ^ 23 + s * 2 ^ u)
  up_exact =
      let b : u + (k - u) ≡ k = omega arith in
      sym (units_parts (k - u) (s * 2 ^ u) up_bot (omega (arith, up_top)) ∙ mul_assoc s (2 ^ u) (2 ^ (k - u)) ∙ ap (λ (x : ℕ). s * x) (sym (pow-add 2 u (k - u)) ∙ ap (λ (x : ℕ). 2 ^ x) b))

-- a longer sum moves down by the bits past 24
module _ (s k w : ℕ) (f : Wide s w) (pos : 0 < s) (many : 24 < w) (ku : k < 254) where
  down_top : s < 2 ^ (24 + (w - 24))
  down_top = let e : w ≡ 24 + (w - 24) = omega arith in subst (λ (x : ℕ). s < 2 ^ x) e f.under

  down_bot : 2 ^ (23 + (w - 24)) ≤ s
  down_bot = let e : w - 1 ≡ 23 + (w - 24) = omega arith in subst (λ (x : ℕ). 2 ^ x ≤ s) e (f.over pos)

  pub down_kept : s / 2 ^ (w - 24) < 2 ^ 24
  down_kept = shr_below s 24 (w - 24) down_top

  pub down_lies : (r : Rest) → Drops (s - s / 2 ^ (w - 24) * 2 ^ (w - 24)) (1 * 2 ^ (w - 24 - 1)) r
      → Lies (s * 2 ^ k) ((k + (w - 24)) * 2 ^ 23 + s / 2 ^ (w - 24)) r
  down_lies r h = scaled_lies s k (w - 24) down_top down_bot (omega arith) r (rw one-mul at h)
