-- How a set of places is kept: place n is in it if bit n of a number is set. A contract sees the set and not the number.
use Rattle.std.specs.Prelude.{◌≡◌, ℕ, zero, suc, ◌+◌, ◌*◌, ◌/◌, ◌%◌, ◌^◌, ◌<◌, ◌≤◌, Bool, true, false, List, [], ◌∷◌, ◌==◌, nat_lt}
use Rattle.std.proofs.Common.{sym, refl, ap, ◌∙◌, ⊎_elim, arith}
use Rattle.std.specs.Int.{bit_at}
use Rattle.std.proofs.lemmas.Bool.{cases_Bool, eqb-true, eqb-false, ltb-true, ltb-false}
use Rattle.std.proofs.lemmas.Nat.Bits.{bit_at-zero, bit_at-lt, bit_at_lowest, bit_at-suc, bit_at_above, same_from_bits}
use Rattle.sheet.specs.Places.{has, places_where, tests}

abbrev pub bit_is_set : ℕ → ℕ → Bool
bit_is_set b n = b / 2 ^ n % 2 == 1

-- the places whose bits are set
abbrev pub set_of : ℕ → List Bool
set_of b = places_where (bit_is_set b)

abbrev pub bit_if : Bool → ℕ
bit_if true = 1
bit_if false = 0

-- the number in which just the bits of a set's places are set
abbrev pub number_of : List Bool → ℕ
number_of [] = 0
number_of (b ∷ s) = bit_if b + 2 * number_of s

-- ---- lemmas, which nobody has to read in order to believe a contract
pub tests_at : (k n : ℕ) (p : ℕ → Bool) (i : ℕ) → i < k → has (tests k n p) i ≡ p (n + i)
unfolding tests
tests_at zero n p i lt = absurd (omega arith)
tests_at (suc k) n p zero lt = ap p (omega arith)
tests_at (suc k) n p (suc i) lt = tests_at k (suc n) p i (omega arith) ∙ ap p (omega arith)

pub tests_past : (k n : ℕ) (p : ℕ → Bool) (i : ℕ) → k ≤ i → has (tests k n p) i ≡ false
unfolding tests
tests_past zero n p i le = refl
tests_past (suc k) n p zero le = absurd (omega arith)
tests_past (suc k) n p (suc i) le = tests_past k (suc n) p i (omega arith)

number_bits : (s : List Bool) (n : ℕ) → bit_at (number_of s) n ≡ bit_if (has s n)
number_bits [] n = bit_at-zero n
number_bits (b ∷ s) zero = bit_at_lowest (bit_if b + 2 * number_of s) ∙ low b (number_of s)
  where
    low : (b : Bool) (m : ℕ) → (bit_if b + 2 * m) % 2 ≡ bit_if b
    low true m = omega arith
    low false m = omega arith
number_bits (b ∷ s) (suc n) = bit_at-suc (bit_if b + 2 * number_of s) n ∙ ap (λ m. bit_at m n) (half b (number_of s)) ∙ number_bits s n
  where
    half : (b : Bool) (m : ℕ) → (bit_if b + 2 * m) / 2 ≡ m
    half true m = omega arith
    half false m = omega arith

bit_of : (b n : ℕ) → bit_if (bit_is_set b n) ≡ bit_at b n
bit_of b n = ⊎_elim
    (λ e. ap bit_if e ∙ sym (eqb-true (bit_at b n) 1 e))
    (λ e. ap bit_if e ∙ let ne = eqb-false (bit_at b n) 1 e in omega (arith, bit_at-lt b n))
    (cases_Bool (bit_is_set b n))

pub number_back : (b : ℕ) → b < 2 ^ 64 → number_of (set_of b) ≡ b
unfolding places_where
number_back b h = same_from_bits (number_of (set_of b)) b (λ n. number_bits (set_of b) n ∙ each n)
  where
    each : (n : ℕ) → bit_if (has (tests 64 0 (bit_is_set b)) n) ≡ bit_at b n
    each n = ⊎_elim
        (λ t. ap bit_if (tests_at 64 0 (bit_is_set b) n (ltb-true n 64 t) ∙ ap (bit_is_set b) (omega arith)) ∙ bit_of b n)
        (λ f. ap bit_if (tests_past 64 0 (bit_is_set b) n (ltb-false n 64 f)) ∙ sym (bit_at_above b 64 n h (ltb-false n 64 f)))
        (cases_Bool (nat_lt n 64))
