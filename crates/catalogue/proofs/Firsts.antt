-- The first number that passes a test: what the definition by halving finds, that nothing else is, and what a search has in hand on its way and where it ends.
use Rattle.std.proofs.Common.{◌≡◌, ℕ, zero, suc, ◌+◌, ◌-◌, ◌^◌, ◌<◌, ◌≤◌, Bool, true, false, cond, leb, Some, None, Option, sym, refl, ap, ◌∙◌, subst, ⊎_elim, arith, pow_pos}
use native.Mathlib.Nat.{two-pow-succ}
use Rattle.std.proofs.lemmas.Bool.{both_ways, cond_both, cases_lt, cases_order, le-leb, lt-leb, cond-true, cond-false}
use Rattle.catalogue.specs.First.{halved, picked, first, First, Stays}

pub not_passed : (b : Bool) → (b ≡ true → ⊥) → b ≡ false
not_passed true h = absurd (h refl)
not_passed false h = refl

-- ---- what the definition finds
abbrev Keeps : (ℕ → Bool) → Type 0
Keeps q = (j k : ℕ) → j ≤ k → q j ≡ true → q k ≡ true

abbrev Least : (ℕ → Bool) → ℕ → Type 0
Least q k = (q k ≡ true) × ((i : ℕ) → i < k → q i ≡ false)

halved_is : (q : ℕ → Bool) → Keeps q → (j base : ℕ) → ((i : ℕ) → i < base → q i ≡ false) → q (base + 2 ^ j - 1) ≡ true → Least q (halved q j base)
unfolding halved
halved_is q st zero base below end = (subst (λ i. q i ≡ true) (omega arith) end, below)
halved_is q st (suc j) base below end =
    let m = base + 2 ^ j - 1 in
    let pw = pow_pos j in
    cond_both (q m) base (base + 2 ^ j) (λ b. Least q (halved q j b))
    (λ e. halved_is q st j base below e)
    (λ e. halved_is q st j (base + 2 ^ j)
    (λ i lt. not_passed (q i) (λ t. both_ways (q m) e (st i m (omega arith) t)))
    (let eq : base + 2 ^ suc j - 1 ≡ base + 2 ^ j + 2 ^ j - 1 = omega (arith, two-pow-succ j) in subst (λ i. q i ≡ true) eq end))

module _ (p : ℕ → Bool) (n : ℕ) (st : Stays p n) where
  abbrev q : ℕ → Bool
  q k = cond (leb n k) true (p k)

  q_end : (k : ℕ) → n ≤ k → q k ≡ true
  q_end k h = cond-true (leb n k) true (p k) (le-leb n k h)

  q_is : (k : ℕ) → k < n → q k ≡ p k
  q_is k h = cond-false (leb n k) true (p k) (lt-leb n k h)

  q_keeps : Keeps q
  q_keeps j k le e = ⊎_elim
      (λ (lt : k < n). q_is k lt ∙ st j k le (omega arith) (sym (q_is j (omega arith)) ∙ e))
      (λ (ge : n ≤ k). q_end k ge) (cases_lt k n)

  -- n at most, where all before fail
  pub picked_is : (k : ℕ) → Least q k → First p n (picked p k)
  picked_is k l = cond_both (p k) (Some k) None (First p n)
      (λ e. (le, e, before))
      (λ e j jn. ⊎_elim (λ (lt : j < k). before j lt) (λ (ge : k ≤ j). subst (λ i. p i ≡ false) (same e j jn ge) e) (cases_lt j k))
    where
      le : k ≤ n
      le = ⊎_elim (λ (lt : n < k). absurd (both_ways (q n) (l.1 n lt) (q_end n (omega arith)))) (λ h. h) (cases_lt n k)

      before : (j : ℕ) → j < k → p j ≡ false
      before j lt = sym (q_is j (omega (arith, le))) ∙ l.1 j lt

      same : p k ≡ false → (j : ℕ) → j ≤ n → k ≤ j → k ≡ j
      same e j jn ge = ⊎_elim (λ (lt : k < n). absurd (both_ways (p k) e (sym (q_is k lt) ∙ l.0))) (λ (h : n ≤ k). omega arith) (cases_lt k n)

  pub first_is : n < 2 ^ 32 → First p n (first p n)
  unfolding first
  first_is h = picked_is _ (halved_is q q_keeps 32 0 (λ i lt. absurd (none i lt)) (q_end _ (omega arith)))
    where
      none : (i : ℕ) → i < 0 → ⊥
      none i lt = omega arith

-- ---- and nothing else
pub first_unique : (p : ℕ → Bool) (n : ℕ) (r s : Option ℕ) → First p n r → First p n s → r ≡ s
first_unique p n None None a b = refl
first_unique p n None (Some k) a b = absurd (both_ways (p k) (a k b.0) b.1)
first_unique p n (Some k) None a b = absurd (both_ways (p k) (b k a.0) a.1)
first_unique p n (Some k) (Some j) a b = ⊎_elim (λ (e : k ≡ j). ap Some e) (⊎_elim
    (λ (lt : k < j). absurd (both_ways (p k) (b.2 k lt) a.1))
    (λ (lt : j < k). absurd (both_ways (p j) (a.2 j lt) b.1))) (cases_order k j)

-- ---- what the search has in hand on its way and where it ends
module _ (p : ℕ → Bool) (n : ℕ) (st : Stays p n) where
  pub fail_before : (m : ℕ) → m ≤ n → false ≡ p m → (j : ℕ) → j ≤ m → p j ≡ false
  fail_before m mn a j h = not_passed (p j) (λ e. both_ways (p m) (sym a) (st j m h mn e))

  pub found_first : n < 2 ^ 32 → (k : ℕ) → k ≤ n → true ≡ p k → ((j : ℕ) → j < k → p j ≡ false) → Some k ≡ first p n
  found_first top k kn a before = first_unique p n (Some k) (first p n) (kn, sym a, before) (first_is p n st top)

  pub found_zero : n < 2 ^ 32 → true ≡ p 0 → Some 0 ≡ first p n
  found_zero top a = found_first top 0 (omega arith) a (λ j h. absurd (none j h))
    where
      none : (i : ℕ) → i < 0 → ⊥
      none i lt = omega arith

  pub found_none : n < 2 ^ 32 → (m : ℕ) → m ≡ n → false ≡ p m → None ≡ first p n
  found_none top m e a = first_unique p n None (first p n) (fail_before n (omega arith) (subst (λ k. false ≡ p k) e a)) (first_is p n st top)
