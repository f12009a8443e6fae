-- The least and the greatest rank among the modes of a set: their order, and that a mode of the set reaches them.
use Rattle.std.proofs.Common.{◌≡◌, ℕ, ◌/◌, ◌%◌, ◌<◌, Bool, true, false, ℤ, ◌≤ℤ◌, ◌<ℤ◌, refl, ap, ◌∙◌, ⊎_elim, arith}
use lib.Signed.{≤ℤ_refl}
use Rattle.std.proofs.lemmas.Int.{ints, clamps, by_lt_z}
use Rattle.std.specs.Int.{int_max, int_min}
use Rattle.std.proofs.lemmas.Bool.{cases_Bool, eqb-false, false≢true, cond-true, cond-false}
use Rattle.catalogue.specs.declared.types.Mode.{Mode}
use Rattle.catalogue.specs.declared.types.Mode.TheVariants.{Nearest, Up, Down, TowardZero}
use Rattle.catalogue.specs.declared.types.Modes.{Modes}
use Rattle.catalogue.specs.Modes.{has_mode, first_mode, lesser_if, greater_if, least_of, greatest_of, only}

lesser_mono : (b : Bool) (z w r t : ℤ) → z ≤ℤ w → r ≤ℤ t → lesser_if b z r ≤ℤ lesser_if b w t
lesser_mono true z w r t h k = omega (arith, ints, clamps)
lesser_mono false z w r t h k = h

greater_mono : (b : Bool) (z w r t : ℤ) → z ≤ℤ w → r ≤ℤ t → greater_if b z r ≤ℤ greater_if b w t
greater_mono true z w r t h k = omega (arith, ints, clamps)
greater_mono false z w r t h k = h

lesser_le : (b : Bool) (z r : ℤ) → lesser_if b z r ≤ℤ z
lesser_le true z r = omega (arith, ints, clamps)
lesser_le false z r = ≤ℤ_refl z

greater_ge : (b : Bool) (z r : ℤ) → z ≤ℤ greater_if b z r
greater_ge true z r = omega (arith, ints, clamps)
greater_ge false z r = ≤ℤ_refl z

lesser_in : (b : Bool) (z r : ℤ) → b ≡ true → lesser_if b z r ≤ℤ r
lesser_in true z r e = omega (arith, ints, clamps)
lesser_in false z r e = absurd (false≢true e)

greater_in : (b : Bool) (z r : ℤ) → b ≡ true → r ≤ℤ greater_if b z r
greater_in true z r e = omega (arith, ints, clamps)
greater_in false z r e = absurd (false≢true e)

module _ (s : Modes) where
  module _ (f g : Mode → ℤ) (h : (m : Mode) → f m ≤ℤ g m) where
    pub least_mono : least_of s f ≤ℤ least_of s g
    unfolding least_of
    least_mono = lesser_mono (has_mode s TowardZero) _ _ _ _ (lesser_mono (has_mode s Down) _ _ _ _ (lesser_mono (has_mode s Up) _ _ _ _ (h (first_mode s)) (h Up)) (h Down)) (h TowardZero)

    pub greatest_mono : greatest_of s f ≤ℤ greatest_of s g
    unfolding greatest_of
    greatest_mono = greater_mono (has_mode s TowardZero) _ _ _ _ (greater_mono (has_mode s Down) _ _ _ _ (greater_mono (has_mode s Up) _ _ _ _ (h (first_mode s)) (h Up)) (h Down)) (h TowardZero)

  module _ (f : Mode → ℤ) where
    first_nearest : has_mode s Nearest ≡ true → f (first_mode s) ≡ f Nearest
    first_nearest h = ap f (cond-true (has_mode s Nearest) Nearest _ h)

    pub least_le : (m : Mode) → has_mode s m ≡ true → least_of s f ≤ℤ f m
    unfolding least_of
    least_le m h =
        let a = lesser_le (has_mode s Up) (f (first_mode s)) (f Up) in
        let b = lesser_le (has_mode s Down) (lesser_if (has_mode s Up) (f (first_mode s)) (f Up)) (f Down) in
        let c = lesser_le (has_mode s TowardZero) (lesser_if (has_mode s Down) (lesser_if (has_mode s Up) (f (first_mode s)) (f Up)) (f Down)) (f TowardZero) in
        by m h a b c
      where
        by : (m : Mode) → has_mode s m ≡ true → lesser_if (has_mode s Up) (f (first_mode s)) (f Up) ≤ℤ f (first_mode s) → lesser_if (has_mode s Down) (lesser_if (has_mode s Up) (f (first_mode s)) (f Up)) (f Down) ≤ℤ lesser_if (has_mode s Up) (f (first_mode s)) (f Up) → least_of s f ≤ℤ lesser_if (has_mode s Down) (lesser_if (has_mode s Up) (f (first_mode s)) (f Up)) (f Down) → least_of s f ≤ℤ f m
        by Nearest h a b c = let e = first_nearest h in omega (arith, ints)
        by Up h a b c = let e = lesser_in (has_mode s Up) (f (first_mode s)) (f Up) h in omega (arith, ints)
        by Down h a b c = let e = lesser_in (has_mode s Down) (lesser_if (has_mode s Up) (f (first_mode s)) (f Up)) (f Down) h in omega (arith, ints)
        by TowardZero h a b c = lesser_in (has_mode s TowardZero) (lesser_if (has_mode s Down) (lesser_if (has_mode s Up) (f (first_mode s)) (f Up)) (f Down)) (f TowardZero) h

    pub greatest_ge : (m : Mode) → has_mode s m ≡ true → f m ≤ℤ greatest_of s f
    unfolding greatest_of
    greatest_ge m h =
        let a = greater_ge (has_mode s Up) (f (first_mode s)) (f Up) in
        let b = greater_ge (has_mode s Down) (greater_if (has_mode s Up) (f (first_mode s)) (f Up)) (f Down) in
        let c = greater_ge (has_mode s TowardZero) (greater_if (has_mode s Down) (greater_if (has_mode s Up) (f (first_mode s)) (f Up)) (f Down)) (f TowardZero) in
        by m h a b c
      where
        by : (m : Mode) → has_mode s m ≡ true → f (first_mode s) ≤ℤ greater_if (has_mode s Up) (f (first_mode s)) (f Up) → greater_if (has_mode s Up) (f (first_mode s)) (f Up) ≤ℤ greater_if (has_mode s Down) (greater_if (has_mode s Up) (f (first_mode s)) (f Up)) (f Down) → greater_if (has_mode s Down) (greater_if (has_mode s Up) (f (first_mode s)) (f Up)) (f Down) ≤ℤ greatest_of s f → f m ≤ℤ greatest_of s f
        by Nearest h a b c = let e = first_nearest h in omega (arith, ints)
        by Up h a b c = let e = greater_in (has_mode s Up) (f (first_mode s)) (f Up) h in omega (arith, ints)
        by Down h a b c = let e = greater_in (has_mode s Down) (greater_if (has_mode s Up) (f (first_mode s)) (f Up)) (f Down) h in omega (arith, ints)
        by TowardZero h a b c = greater_in (has_mode s TowardZero) (greater_if (has_mode s Down) (greater_if (has_mode s Up) (f (first_mode s)) (f Up)) (f Down)) (f TowardZero) h

pub le_then : {u v w : ℤ} → u ≤ℤ v → v ≤ℤ w → u ≤ℤ w
le_then {u} {v} {w} h k = omega (arith, ints)

-- the first mode's rank lies between
pub least_greatest : (s : Modes) (f : Mode → ℤ) → least_of s f ≤ℤ greatest_of s f
unfolding least_of greatest_of
least_greatest s f =
    let v = f (first_mode s) in
    let a = lesser_le (has_mode s Up) v (f Up) in
    let b = lesser_le (has_mode s Down) (lesser_if (has_mode s Up) v (f Up)) (f Down) in
    let c = lesser_le (has_mode s TowardZero) (lesser_if (has_mode s Down) (lesser_if (has_mode s Up) v (f Up)) (f Down)) (f TowardZero) in
    let d = greater_ge (has_mode s Up) v (f Up) in
    let e = greater_ge (has_mode s Down) (greater_if (has_mode s Up) v (f Up)) (f Down) in
    let g = greater_ge (has_mode s TowardZero) (greater_if (has_mode s Down) (greater_if (has_mode s Up) v (f Up)) (f Down)) (f TowardZero) in
    le_then c (le_then b (le_then a (le_then d (le_then e g))))

pub only_least : (m : Mode) (f : Mode → ℤ) → least_of (only m) f ≡ f m
unfolding least_of
only_least Nearest f = refl
only_least Up f = omega (arith, ints, clamps)
only_least Down f = omega (arith, ints, clamps)
only_least TowardZero f = omega (arith, ints, clamps)

pub only_greatest : (m : Mode) (f : Mode → ℤ) → greatest_of (only m) f ≡ f m
unfolding greatest_of
only_greatest Nearest f = refl
only_greatest Up f = omega (arith, ints, clamps)
only_greatest Down f = omega (arith, ints, clamps)
only_greatest TowardZero f = omega (arith, ints, clamps)

-- ---- modes without effect
lesser_same : (b : Bool) (v : ℤ) → lesser_if b v v ≡ v
lesser_same true v = omega (arith, ints, clamps)
lesser_same false v = refl

greater_same : (b : Bool) (v : ℤ) → greater_if b v v ≡ v
greater_same true v = omega (arith, ints, clamps)
greater_same false v = refl

pub least_alike : (s : Modes) (v : ℤ) → least_of s (λ m. v) ≡ v
unfolding least_of
least_alike s v =
    ap (λ u. lesser_if (has_mode s TowardZero) (lesser_if (has_mode s Down) u v) v) (lesser_same (has_mode s Up) v)
    ∙ ap (λ u. lesser_if (has_mode s TowardZero) u v) (lesser_same (has_mode s Down) v) ∙ lesser_same (has_mode s TowardZero) v

pub greatest_alike : (s : Modes) (v : ℤ) → greatest_of s (λ m. v) ≡ v
unfolding greatest_of
greatest_alike s v =
    ap (λ u. greater_if (has_mode s TowardZero) (greater_if (has_mode s Down) u v) v) (greater_same (has_mode s Up) v)
    ∙ ap (λ u. greater_if (has_mode s TowardZero) u v) (greater_same (has_mode s Down) v) ∙ greater_same (has_mode s TowardZero) v

-- ---- a mode of the set whose rank none is below, or none above
module _ (s : Modes) (f : Mode → ℤ) (m : Mode) (in-set : has_mode s m ≡ true) where
  pub least_at : ((n : Mode) → f m ≤ℤ f n) → f m ≡ least_of s f
  least_at h = let a = least_mono s (λ n. f m) f h in let b = least_alike s (f m) in let c = least_le s f m in-set in omega (arith, ints)

  pub greatest_at : ((n : Mode) → f n ≤ℤ f m) → f m ≡ greatest_of s f
  greatest_at h = let a = greatest_mono s f (λ n. f m) h in let b = greatest_alike s (f m) in let c = greatest_ge s f m in-set in omega (arith, ints)

-- ---- the least and the greatest are reached
no_bit : (n : ℕ) → n < 2 → n % 2 ≡ 0 → n ≡ 0
no_bit n a b = omega arith

no_bits : (n : ℕ) → 0 < n → n < 16 → n % 2 ≡ 0 → n / 2 % 2 ≡ 0 → n / 4 % 2 ≡ 0 → n / 8 % 2 ≡ 0 → ⊥
no_bits n a b h i j k =
    let e8 : n < 8 = omega (arith, no_bit (n / 8) (omega arith) k) in
    let e4 : n < 4 = omega (arith, no_bit (n / 4) (omega arith) j) in
    let e2 : n < 2 = omega (arith, no_bit (n / 2) (omega arith) i) in
    omega (arith, no_bit n e2 h)

module _ (s : Modes) (some : 0 < s.bits) (few : s.bits < 16) where
  -- the first mode is one of the set
  pub has_first : has_mode s (first_mode s) ≡ true
  has_first =
      ⊎_elim (λ (h : has_mode s Nearest ≡ true). ap (has_mode s) (cond-true (has_mode s Nearest) Nearest _ h) ∙ h) (λ (h : has_mode s Nearest ≡ false).
      ap (has_mode s) (cond-false (has_mode s Nearest) Nearest _ h) ∙
      ⊎_elim (λ (i : has_mode s Up ≡ true). ap (has_mode s) (cond-true (has_mode s Up) Up _ i) ∙ i) (λ (i : has_mode s Up ≡ false).
      ap (has_mode s) (cond-false (has_mode s Up) Up _ i) ∙
      ⊎_elim (λ (j : has_mode s Down ≡ true). ap (has_mode s) (cond-true (has_mode s Down) Down TowardZero j) ∙ j) (λ (j : has_mode s Down ≡ false).
      ap (has_mode s) (cond-false (has_mode s Down) Down TowardZero j) ∙ last h i j)
      (cases_Bool (has_mode s Down))) (cases_Bool (has_mode s Up))) (cases_Bool (has_mode s Nearest))
    where
      last : has_mode s Nearest ≡ false → has_mode s Up ≡ false → has_mode s Down ≡ false → has_mode s TowardZero ≡ true
      last h i j = ⊎_elim (λ (k : has_mode s TowardZero ≡ true). k) (λ (k : has_mode s TowardZero ≡ false).
          let h0 : s.bits % 2 ≡ 0 = omega (arith, eqb-false (s.bits % 2) 1 h) in
          let i0 : s.bits / 2 % 2 ≡ 0 = omega (arith, eqb-false (s.bits / 2 % 2) 1 i) in
          let j0 : s.bits / 4 % 2 ≡ 0 = omega (arith, eqb-false (s.bits / 4 % 2) 1 j) in
          let k0 : s.bits / 8 % 2 ≡ 0 = omega (arith, eqb-false (s.bits / 8 % 2) 1 k) in
          absurd (no_bits s.bits some few h0 i0 j0 k0))
          (cases_Bool (has_mode s TowardZero))

  module _ (f : Mode → ℤ) where
    abbrev Reached : ℤ → Type 0
    Reached v = (m : Mode) × (has_mode s m ≡ true) × (v ≡ f m)

    lesser_reached : (v : ℤ) (m : Mode) → Reached v → Reached (lesser_if (has_mode s m) v (f m))
    lesser_reached v m r =
        ⊎_elim (λ (h : has_mode s m ≡ true). rw (cond-true (has_mode s m) (int_min v (f m)) v h)
        (by_lt_z (f m) v (λ (l : f m <ℤ v). (m, h, omega (arith, ints, clamps))) (λ (l : v ≤ℤ f m). let e : int_min v (f m) ≡ v = omega (arith, ints, clamps) in (r.0, r.1, e ∙ r.2))))
        (λ (h : has_mode s m ≡ false). rw (cond-false (has_mode s m) (int_min v (f m)) v h) r) (cases_Bool (has_mode s m))

    greater_reached : (v : ℤ) (m : Mode) → Reached v → Reached (greater_if (has_mode s m) v (f m))
    greater_reached v m r =
        ⊎_elim (λ (h : has_mode s m ≡ true). rw (cond-true (has_mode s m) (int_max v (f m)) v h)
        (by_lt_z v (f m) (λ (l : v <ℤ f m). (m, h, omega (arith, ints, clamps))) (λ (l : f m ≤ℤ v). let e : int_max v (f m) ≡ v = omega (arith, ints, clamps) in (r.0, r.1, e ∙ r.2))))
        (λ (h : has_mode s m ≡ false). rw (cond-false (has_mode s m) (int_max v (f m)) v h) r) (cases_Bool (has_mode s m))

    pub least_reached : (m : Mode) × (has_mode s m ≡ true) × (least_of s f ≡ f m)
    unfolding least_of
    least_reached = lesser_reached _ TowardZero (lesser_reached _ Down (lesser_reached _ Up (first_mode s, has_first, refl)))

    pub greatest_reached : (m : Mode) × (has_mode s m ≡ true) × (greatest_of s f ≡ f m)
    unfolding greatest_of
    greatest_reached = greater_reached _ TowardZero (greater_reached _ Down (greater_reached _ Up (first_mode s, has_first, refl)))
