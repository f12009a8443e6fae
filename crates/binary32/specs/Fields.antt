-- Patterns are worth what their fields say; a rank that is written is read back, and a pattern that is read is written back.
use Rattle.std.specs.Prelude.{◌≡◌, ℕ, zero, suc, ◌+◌, ◌*◌, ◌/◌, ◌%◌, ◌^◌, ◌<◌, ◌≤◌, Bool, true, false, ◌≢◌, ℤ, pos, negsuc, neg_ℤ, Some, None, Option, ◌==◌, nat_eq, refl}
use Rattle.std.proofs.Common.{sym, ap, subst, ◌∙◌, ⊎_elim, arith}
use Rattle.std.proofs.lemmas.Int.{ints}
use Rattle.std.proofs.lemmas.Bool.{cases_lt, cond_both, cond-false, eqb-true, eqb-false, eq-eqb, ne_eqb}
use Rattle.binary32.specs.Units.{in_units, units, value, beyond, with_sign, Reading}
use Rattle.binary32.specs.Patterns.{sign_bit, exponent_field, fraction, rank_of, read, write}
use Rattle.binary32.specs.Growing.{value_neg}

abbrev magnitude_of : ℕ → ℕ
magnitude_of p = exponent_field p * 2 ^ 23 + fraction p

-- ---- what the fields say
value_signed : (b : Bool) (n : ℕ) → value (with_sign b n) ≡ with_sign b (units n)
value_signed true n = value_neg (pos n)
value_signed false n = refl

pub fields : (p : ℕ) → value (rank_of p) ≡ with_sign (sign_bit p == 1) (in_units (exponent_field p) (fraction p))
unfolding units
fields p =
    let s = nat_eq (sign_bit p) 1 in
    let e : magnitude_of p / 2 ^ 23 ≡ exponent_field p = omega arith in
    let f : magnitude_of p % 2 ^ 23 ≡ fraction p = omega arith in
    value_signed s (magnitude_of p) ∙ ap (λ (x : ℕ). with_sign s (in_units x (magnitude_of p % 2 ^ 23))) e ∙ ap (λ (x : ℕ). with_sign s (in_units (exponent_field p) x)) f

-- ---- what is read is a reading
signed_reading : (b : Bool) (n : ℕ) → n < beyond → Reading (with_sign b n)
signed_reading true n h = (omega (arith, ints), omega (arith, ints))
signed_reading false n h = (omega (arith, ints), omega (arith, ints))

below : (p : ℕ) → (exponent_field p == 255) ≡ false → magnitude_of p < beyond
below p h = let ne = eqb-false (exponent_field p) 255 h in omega arith

abbrev Read : Option ℤ → Type 0
Read None = Unit {0}
Read (Some r) = Reading r

some_reading : (p : ℕ) → Read (read p)
some_reading p = cond_both (exponent_field p == 255) None (Some (rank_of p)) Read (λ h. tt) (λ h. signed_reading (sign_bit p == 1) (magnitude_of p) (below p h))

pub read_reading : (p : ℕ) (r : ℤ) → read p ≡ Some r → Reading r
read_reading p r h = subst Read h (some_reading p)

-- ---- a rank is read back
read_fields : (p n : ℕ) (b : Bool) → (sign_bit p == 1) ≡ b → magnitude_of p ≡ n → n < beyond → read p ≡ Some (with_sign b n)
read_fields p n b s m h =
    let ne : exponent_field p ≢ 255 = (λ (e : exponent_field p ≡ 255). omega arith) in
    cond-false (exponent_field p == 255) None (Some (rank_of p)) (ne_eqb (exponent_field p) 255 ne)
    ∙ ap (λ (x : Bool). Some (with_sign x (magnitude_of p))) s ∙ ap (λ (x : ℕ). Some (with_sign b x)) m

pub reread : (r : ℤ) → Reading r → read (write r) ≡ Some r
reread (pos m) h =
    let l : m < beyond = omega (arith, ints, h.1) in
    let w : write (pos m) ≡ m = omega arith in
    let z : sign_bit m ≢ 1 = (λ (e : sign_bit m ≡ 1). omega arith) in
    ap read w ∙ read_fields m m false (ne_eqb (sign_bit m) 1 z) (omega arith) l
reread (negsuc m) h =
    let l : suc m < beyond = omega (arith, ints, h.0) in
    let w : write (negsuc m) ≡ 2 ^ 31 + suc m = omega arith in
    let o : sign_bit (2 ^ 31 + suc m) ≡ 1 = omega arith in
    ap read w ∙ read_fields (2 ^ 31 + suc m) (suc m) true (eq-eqb (sign_bit (2 ^ 31 + suc m)) 1 o) (omega arith) l

-- ---- a pattern is written back
write_minus : (n : ℕ) → 0 < n → n < beyond → write (neg_ℤ (pos n)) ≡ 2 ^ 31 + n
write_minus zero h l = absurd (omega arith)
write_minus (suc n) h l = omega arith

write_signed : (p : ℕ) (b : Bool) → p < 2 ^ 32 → p ≢ 2147483648 → magnitude_of p < beyond → (sign_bit p == 1) ≡ b → write (with_sign b (magnitude_of p)) ≡ p
write_signed p true h n l s =
    let o = eqb-true (sign_bit p) 1 s in
    let e : p ≡ 2 ^ 31 + magnitude_of p = omega arith in
    let g : 0 < magnitude_of p = ⊎_elim (λ (a : 0 < magnitude_of p). a) (λ (a : magnitude_of p ≤ 0). absurd (n (omega arith))) (cases_lt 0 (magnitude_of p)) in
    write_minus (magnitude_of p) g l ∙ sym e
write_signed p false h n l s =
    let o = eqb-false (sign_bit p) 1 s in
    let z : p / 2 ^ 31 ≡ 0 = omega arith in
    let e : magnitude_of p ≡ p = omega arith in
    omega arith

pub rewritten : (p : ℕ) (r : ℤ) → p < 2 ^ 32 → p ≢ 0x80000000 → read p ≡ Some r → write r ≡ p
rewritten p r h n e =
    cond_both (exponent_field p == 255) None (Some (rank_of p)) (λ (o : Option ℤ). o ≡ Some r → write r ≡ p)
    (λ t q. absurd (let z : ◌≡◌ {A = ℕ} 0 1 = cc in omega arith))
    (λ t q. let w : rank_of p ≡ r = cc in ap write (sym w) ∙ write_signed p (sign_bit p == 1) h n (below p t) refl) e
