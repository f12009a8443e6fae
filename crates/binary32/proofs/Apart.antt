-- The sum or difference of two magnitudes: by their significands, and where their scales are far apart.
use Rattle.std.proofs.Common.{◌≡◌, ℕ, suc, ◌+◌, ◌-◌, ◌*◌, ◌^◌, ◌<◌, ◌≤◌, Bool, true, false, sym, ap, ◌∙◌, lt_of_lt_of_le, mul_assoc, add-mul, le_of_mul-le-mul_right, arith, pow_pos, pow_mono, pow-add}
use Rattle.std.proofs.lemmas.Nat.{shl_below}
use Rattle.binary32.specs.declared.types.Rest.TheVariants.{Exact}
use Rattle.binary32.specs.Units.{units}
use Rattle.binary32.specs.Locations.{Lies, LiesAt, joined, just_off, scale_of, significand_of}
use Rattle.binary32.specs.Floors.{units_parts, units_low, units_suc, units_le, units_lt}

pub units_of : (m : ℕ) → units m ≡ significand_of m * 2 ^ scale_of m
units_of m =
    let e : m ≡ scale_of m * 2 ^ 23 + significand_of m = omega arith in
    ap units e ∙ units_parts (scale_of m) (significand_of m) (λ h. omega arith) (omega arith)

units_zero : (m : ℕ) → m ≡ 0 → units m ≡ 0
units_zero m e = ap units e ∙ units_low 0 (omega arith)

module _ (big small : ℕ) (far : scale_of small + 39 < scale_of big) where
  tiny : units small < 2 ^ (24 + scale_of small)
  tiny =
      let l : significand_of small < 2 ^ 24 = omega arith in
      omega (arith, units_of small, shl_below (significand_of small) 24 (scale_of small) l)

  -- four times the smaller is less than the step below or above the larger
  room : 4 * units small < 2 ^ (scale_of big - 1)
  room =
      let l : 2 + (24 + scale_of small) ≤ scale_of big - 1 = omega arith in
      omega (arith, tiny, pow-add 2 2 (24 + scale_of small), pow_mono l)

  above : units (suc big) ≡ units big + 2 ^ scale_of big
  above = units_suc big

  up_gap : 2 ^ (scale_of big - 1) ≤ 2 ^ scale_of big
  up_gap = let l : scale_of big - 1 ≤ scale_of big = omega arith in pow_mono l

  below : units big ≡ units (big - 1) + 2 ^ scale_of (big - 1)
  below = let e : suc (big - 1) ≡ big = omega arith in sym (ap units e) ∙ units_suc (big - 1)

  down_gap : 2 ^ (scale_of big - 1) ≤ 2 ^ scale_of (big - 1)
  down_gap = let l : scale_of big - 1 ≤ scale_of (big - 1) = omega arith in pow_mono l

  pub far_zero : (like : Bool) → small ≡ 0 → Lies (joined like (units big) (units small)) big Exact
  far_zero true z = omega (arith, units_zero small z)
  far_zero false z = omega (arith, units_zero small z)

  some : (small ≡ 0 → ⊥) → 0 < units small
  some h = let l : 0 < small = omega arith in omega (arith, units_lt 0 small l)

  pub far_off : (like : Bool) → (small ≡ 0 → ⊥) → LiesAt (joined like (units big) (units small)) (just_off like big)
  far_off true h = (omega (arith, some h), omega (arith, room, above, up_gap))
  far_off false h =
      let e : suc (big - 1) ≡ big = omega arith in
      let n = ap units e in
      (omega (arith, room, below, down_gap, n), omega (arith, some h, room, below, down_gap, n))

-- two magnitudes whose scales are at most 39 apart, in units of the smaller one's last bit
module _ (big small : ℕ) (order : small ≤ big) (near : scale_of big - scale_of small ≤ 39) where
  abbrev P : ℕ
  P = 2 ^ scale_of small

  abbrev high : ℕ
  high = significand_of big * 2 ^ (scale_of big - scale_of small)

  abbrev low : ℕ
  low = significand_of small

  pub high_top : high < 2 ^ 63
  high_top =
      let t : significand_of big < 2 ^ 24 = omega arith in
      let g : 24 + (scale_of big - scale_of small) ≤ 63 = omega arith in
      lt_of_lt_of_le (shl_below (significand_of big) 24 (scale_of big - scale_of small) t) (pow_mono g)

  big_is : units big ≡ high * P
  big_is =
      let e : scale_of big ≡ (scale_of big - scale_of small) + scale_of small = omega arith in
      units_of big
      ∙ ap (λ (x : ℕ). significand_of big * x) (ap (λ (x : ℕ). 2 ^ x) e ∙ pow-add 2 (scale_of big - scale_of small) (scale_of small))
      ∙ sym (mul_assoc (significand_of big) (2 ^ (scale_of big - scale_of small)) P)

  pub low_le : low ≤ high
  low_le = le_of_mul-le-mul_right {k = P} (omega (arith, big_is, units_of small, units_le small big order)) (pow_pos (scale_of small))

  pub near_sum : (like : Bool) → joined like high low * P ≡ joined like (units big) (units small)
  near_sum true = omega (arith, add-mul high low P, big_is, units_of small)
  near_sum false =
      let e : high - low + low ≡ high = omega (arith, low_le) in
      omega (arith, add-mul (high - low) low P, ap (λ (x : ℕ). x * P) e, big_is, units_of small)
