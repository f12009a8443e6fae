-- Sets of places: which places a set made by a test has, that two sets with the same places are one, and the lowest place.
use Rattle.std.proofs.Common.{◌≡◌, ◌≢◌, ℕ, zero, suc, ◌+◌, ◌<◌, ◌≤◌, Bool, true, false, not, ◌&&◌, ◌||◌, eqb, ltb, [], ◌∷◌, Some, None, sym, refl, ap, ◌∙◌, subst, ⊎_elim, arith}
use Rattle.std.specs.List.{position_from}
use Rattle.std.proofs.lemmas.Bool.{eq-eqb, ne_eqb, and_right, or_right, cases_Bool, both_ways, ltb-true, ltb-false}
use Rattle.sheet.specs.declared.places.Places.{Places}
use Rattle.sheet.specs.Bits.{tests_at, tests_past}
use Rattle.sheet.specs.Places.{has, tests, places_where, none, with_place, without, union, is_none, lowest}

-- ---- the places that pass a test
pub where_at : (p : ℕ → Bool) (k : ℕ) → k < 64 → has (places_where p) k ≡ p k
unfolding places_where
where_at p k lt = tests_at 64 0 p k lt ∙ ap p (omega arith)

pub where_past : (p : ℕ → Bool) (k : ℕ) → 64 ≤ k → has (places_where p) k ≡ false
unfolding places_where
where_past p k le = tests_past 64 0 p k le

-- tests that agree at each place
pub same_where : (p q : ℕ → Bool) → ((k : ℕ) → k < 64 → p k ≡ q k) → places_where p ≡ places_where q
unfolding places_where tests
same_where p q h = from 64 0 (λ k lt le. h k (omega arith))
  where
    from : (c n : ℕ) → ((k : ℕ) → k < n + c → n ≤ k → p k ≡ q k) → tests c n p ≡ tests c n q
    from zero n h = refl
    from (suc c) n h = ap (λ b. b ∷ tests c (suc n) p) (h n (omega arith) (omega arith)) ∙ ap (λ s. q n ∷ s) (from c (suc n) (λ k lt le. h k (omega arith) (omega arith)))

-- a set that a test made is made by its own places, and two such sets with the same places are one
pub where_is : (p : ℕ → Bool) → places_where (has (places_where p)) ≡ places_where p
where_is p = same_where (has (places_where p)) p (where_at p)

pub same_sets : (s u : Places) → places_where (has s) ≡ s → places_where (has u) ≡ u → ((k : ℕ) → k < 64 → has s k ≡ has u k) → s ≡ u
same_sets s u a b h = sym a ∙ same_where (has s) (has u) h ∙ b

-- ---- which places a changed set has
pub none_has : (k : ℕ) → has none k ≡ false
unfolding none
none_has k = ⊎_elim
    (λ e. where_at (λ _. false) k (ltb-true k 64 e))
    (λ e. where_past (λ _. false) k (ltb-false k 64 e))
    (cases_Bool (ltb k 64))

pub with_has : (n : ℕ) (s : Places) (k : ℕ) → k < 64 → has (with_place n s) k ≡ (has s k || eqb k n)
unfolding with_place
with_has n s k lt = where_at (λ j. has s j || eqb j n) k lt

pub none_is : places_where (has none) ≡ none
unfolding none
none_is = where_is (λ k. false)

pub with_is : (n : ℕ) (s : Places) → places_where (has (with_place n s)) ≡ with_place n s
unfolding with_place
with_is n s = where_is (λ k. has s k || eqb k n)

pub without_is : (n : ℕ) (s : Places) → places_where (has (without n s)) ≡ without n s
unfolding without
without_is n s = where_is (λ k. has s k && not (eqb k n))

pub with_here : (n : ℕ) (s : Places) → n < 64 → has (with_place n s) n ≡ true
with_here n s lt = with_has n s n lt ∙ or_right (has s n) (eqb n n) (eq-eqb n n refl)

-- a place that a set has after it was given n is n, or was there
pub with_from : (n : ℕ) (s : Places) (k : ℕ) → has (with_place n s) k ≡ true → k ≢ n → has s k ≡ true
unfolding with_place
with_from n s k e ne = ⊎_elim
    (λ t. let h = sym (where_at (λ j. has s j || eqb j n) k (ltb-true k 64 t)) ∙ e in or_first (has s k) (eqb k n) (ne_eqb k n ne) h)
    (λ f. absurd (both_ways (has (with_place n s) k) (where_past (λ j. has s j || eqb j n) k (ltb-false k 64 f)) e))
    (cases_Bool (ltb k 64))
  where
    or_first : (a b : Bool) → b ≡ false → (a || b) ≡ true → a ≡ true
    or_first true b f e = refl
    or_first false b f e = absurd (both_ways b f e)

pub with_other : (n : ℕ) (s : Places) (k : ℕ) → k < 64 → k ≢ n → has (with_place n s) k ≡ has s k
with_other n s k lt ne = with_has n s k lt ∙ ap (λ b. has s k || b) (ne_eqb k n ne) ∙ or_none (has s k)
  where
    or_none : (a : Bool) → (a || false) ≡ a
    or_none true = refl
    or_none false = refl

pub without_has : (n : ℕ) (s : Places) (k : ℕ) → k < 64 → has (without n s) k ≡ (has s k && not (eqb k n))
unfolding without
without_has n s k lt = where_at (λ j. has s j && not (eqb j n)) k lt

pub without_other : (n : ℕ) (s : Places) (k : ℕ) → k < 64 → k ≢ n → has (without n s) k ≡ has s k
without_other n s k lt ne = without_has n s k lt ∙ ap (λ b. has s k && not b) (ne_eqb k n ne) ∙ and_all (has s k)
  where
    and_all : (a : Bool) → (a && true) ≡ a
    and_all true = refl
    and_all false = refl

pub without_here : (n : ℕ) (s : Places) → n < 64 → has (without n s) n ≡ false
without_here n s lt = without_has n s n lt ∙ and_right (has s n) (not (eqb n n)) (ap not (eq-eqb n n refl))

-- a place that a set has once n is gone is another, and was there
pub without_from : (n : ℕ) (s : Places) (k : ℕ) → has (without n s) k ≡ true → (k ≢ n) × (has s k ≡ true)
unfolding without
without_from n s k e = ⊎_elim
    (λ t.
    let h = sym (where_at (λ j. has s j && not (eqb j n)) k (ltb-true k 64 t)) ∙ e in
    let a = and_both (has s k) (not (eqb k n)) h in
    ((λ f. both_ways (not (eqb k n)) (ap not (eq-eqb k n f)) a.1), a.0))
    (λ f. absurd (both_ways (has (without n s) k) (where_past (λ j. has s j && not (eqb j n)) k (ltb-false k 64 f)) e))
    (cases_Bool (ltb k 64))
  where
    and_both : (a b : Bool) → (a && b) ≡ true → (a ≡ true) × (b ≡ true)
    and_both true true e = (refl, refl)
    and_both true false e = absurd cc
    and_both false b e = absurd cc

pub union_has : (s u : Places) (k : ℕ) → k < 64 → has (union s u) k ≡ (has s k || has u k)
unfolding union
union_has s u k lt = where_at (λ j. has s j || has u j) k lt

pub union_from : (s u : Places) (k : ℕ) → has (union s u) k ≡ true → (has s k || has u k) ≡ true
unfolding union
union_from s u k e = ⊎_elim
    (λ t. sym (where_at (λ j. has s j || has u j) k (ltb-true k 64 t)) ∙ e)
    (λ f. absurd (both_ways (has (union s u) k) (where_past (λ j. has s j || has u j) k (ltb-false k 64 f)) e))
    (cases_Bool (ltb k 64))

-- ---- an empty set
pub empty_has : (s : Places) → is_none s ≡ true → (k : ℕ) → has s k ≡ false
empty_has [] e k = refl
empty_has (true ∷ s) e k = absurd cc
empty_has (false ∷ s) e zero = refl
empty_has (false ∷ s) e (suc k) = empty_has s e k

pub has_empty : (s : Places) → ((k : ℕ) → has s k ≡ false) → is_none s ≡ true
has_empty [] h = refl
has_empty (true ∷ s) h = absurd (both_ways true (h 0) refl)
has_empty (false ∷ s) h = has_empty s (λ k. h (suc k))

-- a set that has a place is not empty
pub not_none : (s : Places) (n : ℕ) → has s n ≡ true → is_none s ≡ false
not_none s n h = ⊎_elim (λ e. absurd (both_ways (has s n) (empty_has s e n) h)) (λ e. e) (cases_Bool (is_none s))

pub none_is_none : is_none none ≡ true
none_is_none = has_empty none none_has

-- ---- the lowest place
first_from : (s : Places) (i n : ℕ) → has s n ≡ true → ((k : ℕ) → k < n → has s k ≡ false) → position_from (λ b. b) i s ≡ Some (i + n)
first_from [] i n e h = absurd cc
first_from (true ∷ s) i zero e h = ap Some (omega arith)
first_from (true ∷ s) i (suc n) e h = absurd (both_ways true (h 0 (omega arith)) refl)
first_from (false ∷ s) i zero e h = absurd cc
first_from (false ∷ s) i (suc n) e h = first_from s (i + 1) n e (λ k lt. h (suc k) (omega arith)) ∙ ap Some (omega arith)

pub first_place : (s : Places) (n : ℕ) → has s n ≡ true → ((k : ℕ) → k < n → has s k ≡ false) → lowest s ≡ Some n
unfolding lowest
first_place s n e h = first_from s 0 n e h ∙ ap Some (omega arith)

none_from : (s : Places) (i : ℕ) → is_none s ≡ true → position_from (λ b. b) i s ≡ None
none_from [] i e = refl
none_from (true ∷ s) i e = absurd cc
none_from (false ∷ s) i e = none_from s (i + 1) e

pub no_place_first : (s : Places) → is_none s ≡ true → lowest s ≡ None
unfolding lowest
no_place_first s e = none_from s 0 e

-- what is found is in the set, and nothing below it is
record Found (s : Places) (i n : ℕ) : Type 0 where
  place : ℕ
  here : n ≡ i + place
  has_it : has s place ≡ true
  first : (k : ℕ) → k < place → has s k ≡ false

found_from : (s : Places) (i n : ℕ) → position_from (λ b. b) i s ≡ Some n → Found s i n
found_from [] i n e = absurd cc
found_from (true ∷ s) i n e = record { place = 0; here = let h : n ≡ i = cc in omega arith; has_it = refl; first = λ k lt. absurd (omega arith) }
found_from (false ∷ s) i n e =
    let f = found_from s (i + 1) n e in
    record { place = suc f.place; here = f.here ∙ omega arith; has_it = f.has_it; first = below s f.place f.first }
  where
    below : (s : Places) (p : ℕ) → ((k : ℕ) → k < p → has s k ≡ false) → (k : ℕ) → k < suc p → has (false ∷ s) k ≡ false
    below s p h zero lt = refl
    below s p h (suc k) lt = h k (omega arith)

pub lowest_in : (s : Places) (n : ℕ) → lowest s ≡ Some n → (has s n ≡ true) × ((k : ℕ) → k < n → has s k ≡ false)
unfolding lowest
lowest_in s n e =
    let f = found_from s 0 n e in
    let same : f.place ≡ n = omega (arith, f.here) in
    (subst (λ j. has s j ≡ true) same f.has_it, subst (λ j. (k : ℕ) → k < j → has s k ≡ false) same f.first)

pub lowest_some : (s : Places) → is_none s ≡ false → (n : ℕ) × (lowest s ≡ Some n)
unfolding lowest
lowest_some s e = from s 0 e
  where
    from : (s : Places) (i : ℕ) → is_none s ≡ false → (n : ℕ) × (position_from (λ b. b) i s ≡ Some n)
    from [] i e = absurd cc
    from (true ∷ s) i e = (i, refl)
    from (false ∷ s) i e = from s (i + 1) e
