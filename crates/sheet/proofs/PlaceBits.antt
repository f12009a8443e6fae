-- The bits of a number are the set that the code means: a bit set, a bit cleared, the bits of two numbers, and the lowest bit.
use Rattle.std.proofs.Common.{◌≡◌, ◌≢◌, ℕ, zero, suc, ◌*◌, ◌%◌, ◌^◌, ◌<◌, Bool, true, false, not, ◌&&◌, ◌||◌, eqb, ltb, List, [], ◌∷◌, Some, sym, refl, ap, ◌∙◌, subst, ⊎_elim, w64, arith}
use Rattle.std.specs.Int.{bit_at, bit_not}
use Rattle.std.specs.Int.Bits.{bit_and, bit_or}
use Rattle.std.specs.Int.Count.{count_trailing_zeros}
use Rattle.std.proofs.lemmas.Nat.Bits.{bit_at-lt, bit_at-trailing_zeros, bit_at-zero, bit_at_clear_other, bit_at_clear_same, bit_at_or, bit_at_set_other, bit_at_set_same}
use Rattle.std.proofs.lemmas.Bool.{eq-eqb, ne_eqb, eqb-true, eqb-false, cases_Bool, cases_eq, or_right, and_right, ltb-true, ltb-false}
use Rattle.sheet.specs.Bits.{bit_is_set, set_of}
use Rattle.sheet.specs.Places.{Lowest, has, none, with_place, without, union, is_none, lowest}
use Rattle.sheet.proofs.PlaceSets.{where_at, where_past, same_where, has_empty, first_place}

bit_on : (b k : ℕ) → bit_at b k ≡ 1 → bit_is_set b k ≡ true
bit_on b k e = eq-eqb (bit_at b k) 1 e

bit_off : (b k : ℕ) → bit_at b k ≡ 0 → bit_is_set b k ≡ false
bit_off b k e = ne_eqb (bit_at b k) 1 (λ h. omega (arith, e, h))

is_on : (b k : ℕ) → bit_is_set b k ≡ true → bit_at b k ≡ 1
is_on b k e = eqb-true (bit_at b k) 1 e

is_off : (b k : ℕ) → bit_is_set b k ≡ false → bit_at b k ≡ 0
is_off b k e = let ne = eqb-false (bit_at b k) 1 e in omega (arith, bit_at-lt b k)

same_bit : (a b k : ℕ) → bit_at a k ≡ bit_at b k → bit_is_set a k ≡ bit_is_set b k
same_bit a b k e = ap (λ d. eqb d 1) e

pub in_bits : (b k : ℕ) → k < 64 → has (set_of b) k ≡ bit_is_set b k
in_bits b k lt = where_at (bit_is_set b) k lt

pub none_of : set_of 0 ≡ none
unfolding none
none_of = same_where (bit_is_set 0) (λ _. false) (λ k lt. bit_off 0 k (bit_at-zero k))

-- ---- `b | 1 << n` and `b & !(1 << n)`
module _ (b n : ℕ) (lt : n < 64) where
  pub with_bit : set_of (bit_or b (1 * 2 ^ n % 2 ^ 64)) ≡ with_place n (set_of b)
  unfolding with_place
  with_bit = same_where (bit_is_set (bit_or b (1 * 2 ^ n % 2 ^ 64))) (λ k. has (set_of b) k || eqb k n) (λ k l. ⊎_elim
      (λ (e : k ≡ n). subst (λ j. bit_is_set (bit_or b (1 * 2 ^ n % 2 ^ 64)) j ≡ (has (set_of b) j || eqb j n)) (sym e)
      (bit_on (bit_or b (1 * 2 ^ n % 2 ^ 64)) n (bit_at_set_same w64 b n lt) ∙ sym (or_right (has (set_of b) n) (eqb n n) (eq-eqb n n refl))))
      (λ (ne : k ≢ n). same_bit _ b k (bit_at_set_other w64 b n lt k ne) ∙ sym (in_bits b k l) ∙ or_none (has (set_of b) k) ∙ ap (λ t. has (set_of b) k || t) (sym (ne_eqb k n ne)))
      (cases_eq k n))
    where
      or_none : (a : Bool) → a ≡ (a || false)
      or_none true = refl
      or_none false = refl

  pub without_bit : set_of (bit_and b (bit_not w64 (1 * 2 ^ n % 2 ^ 64))) ≡ without n (set_of b)
  unfolding without
  without_bit = same_where (bit_is_set (bit_and b (bit_not w64 (1 * 2 ^ n % 2 ^ 64)))) (λ k. has (set_of b) k && not (eqb k n)) (λ k l. ⊎_elim
      (λ (e : k ≡ n). subst (λ j. bit_is_set (bit_and b (bit_not w64 (1 * 2 ^ n % 2 ^ 64))) j ≡ (has (set_of b) j && not (eqb j n))) (sym e)
      (bit_off (bit_and b (bit_not w64 (1 * 2 ^ n % 2 ^ 64))) n (bit_at_clear_same w64 b n lt) ∙ sym (and_right (has (set_of b) n) (not (eqb n n)) (ap not (eq-eqb n n refl)))))
      (λ (ne : k ≢ n). same_bit _ b k (bit_at_clear_other w64 b n lt k l ne) ∙ sym (in_bits b k l) ∙ and_all (has (set_of b) k) ∙ ap (λ t. has (set_of b) k && not t) (sym (ne_eqb k n ne)))
      (cases_eq k n))
    where
      and_all : (a : Bool) → a ≡ (a && true)
      and_all true = refl
      and_all false = refl

pub union_bits : (a b : ℕ) → set_of (bit_or a b) ≡ union (set_of a) (set_of b)
unfolding union
union_bits a b = same_where (bit_is_set (bit_or a b)) (λ k. has (set_of a) k || has (set_of b) k) (λ k lt.
    either k ∙ ap (λ t. t || bit_is_set b k) (sym (in_bits a k lt)) ∙ ap (λ t. has (set_of a) k || t) (sym (in_bits b k lt)))
  where
    either : (k : ℕ) → bit_is_set (bit_or a b) k ≡ (bit_is_set a k || bit_is_set b k)
    either k = ⊎_elim
        (λ h. bit_on (bit_or a b) k (omega (arith, bit_at_or a b k, is_on a k h, bit_at-lt b k)) ∙ sym (ap (λ t. t || bit_is_set b k) h))
        (λ h. same_bit (bit_or a b) b k (bit_at_or a b k ∙ omega (arith, is_off a k h)) ∙ sym (ap (λ t. t || bit_is_set b k) h))
        (cases_Bool (bit_is_set a k))

-- ---- whether there is a bit, and the lowest
none_has_bit : (k : ℕ) → bit_is_set 0 k ≡ false
none_has_bit k = bit_off 0 k (bit_at-zero k)

pub no_bits : (k : ℕ) → has (set_of 0) k ≡ false
no_bits k = ⊎_elim
    (λ e. in_bits 0 k (ltb-true k 64 e) ∙ none_has_bit k)
    (λ e. where_past (bit_is_set 0) k (ltb-false k 64 e))
    (cases_Bool (ltb k 64))

module _ (b : ℕ) (below : b < 2 ^ 64) where
  abbrev low : ℕ
  low = count_trailing_zeros 64 b

  pub low_bit : eqb b 0 ≡ false → Lowest (set_of b) (Some low)
  low_bit e =
      let ne = eqb-false b 0 e in
      let t = bit_at-trailing_zeros w64 b (omega arith) below in
      (t.0, in_bits b low t.0 ∙ bit_on b low t.1, λ k lt. in_bits b k (omega (arith, t.0)) ∙ bit_off b k (t.2 k lt))

  pub low_first : eqb b 0 ≡ false → Some low ≡ lowest (set_of b)
  low_first e = let l = low_bit e in sym (first_place (set_of b) low l.1 l.2)

  pub is_zero : eqb b 0 ≡ is_none (set_of b)
  is_zero = ⊎_elim
      (λ e. e ∙ sym (subst (λ n. is_none (set_of n) ≡ true) (sym (eqb-true b 0 e)) (has_empty (set_of 0) no_bits)))
      (λ e. let l = low_bit e in e ∙ sym (not_empty (set_of b) low l.1))
      (cases_Bool (eqb b 0))
    where
      not_empty : (s : List Bool) (n : ℕ) → has s n ≡ true → is_none s ≡ false
      not_empty [] n h = absurd cc
      not_empty (true ∷ s) n h = refl
      not_empty (false ∷ s) zero h = absurd cc
      not_empty (false ∷ s) (suc n) h = not_empty s n h
