-- The computed roundings are those of the standard's words, and the only ones.
use Rattle.std.specs.Prelude.{◌≡◌, ℕ, suc, ◌+◌, ◌-◌, ◌*◌, ◌%◌, ◌^◌, ◌<◌, ◌≤◌, min, ◌≢◌, ◌⊎◌, ℤ, pos, negsuc, ◌+ℤ◌, ◌-ℤ◌, neg_ℤ, ◌≤ℤ◌, ◌<ℤ◌, unsigned_abs, refl}
use Rattle.std.proofs.Common.{sym, ap, subst, ◌∙◌, inl, inr, ⊎_elim, arith}
use Rattle.std.proofs.Math.IntN.{neg_ℤ-neg_ℤ}
use Rattle.std.proofs.lemmas.Bool.{cases_lt}
use Rattle.std.proofs.lemmas.Int.{ints, by_lt_z}
use Rattle.binary32.specs.declared.types.Rest.{Rest}
use Rattle.binary32.specs.declared.types.Rest.TheVariants.{Exact, BelowMiddle, Middle, AboveMiddle}
use Rattle.catalogue.specs.declared.types.Mode.{Mode}
use Rattle.catalogue.specs.declared.types.Mode.TheVariants.{Nearest, Up, Down, TowardZero}
use Rattle.binary32.specs.Units.{units, beyond, largest, value, Reading}
use Rattle.binary32.specs.Locations.{Lies}
use Rattle.binary32.specs.Rounding.{RoundsUp, RoundsDown, NearestToEven, Rounds, distance, overflow}
use Rattle.binary32.specs.Computed.{toward_zero, from_zero, to_nearest, rounded}
use Rattle.binary32.specs.Floors.{floor_iff, units_le, units_lt, units_low}
use Rattle.binary32.specs.Located.{rest_lies, lies_floor, step}
use Rattle.binary32.specs.Growing.{value_neg}

-- ---- magnitudes

-- the greatest reading's magnitude at or below n units
record TowardIs (n u : ℕ) : Type 0 where
  pub reading : u < beyond
  pub below : units u ≤ n
  pub most : (m : ℕ) → m < beyond → units m ≤ n → m ≤ u

toward_is : (n t : ℕ) (r : Rest) → Lies n t r → TowardIs n (toward_zero t r)
toward_is n t r c =
    let f = lies_floor n t r c in record {
      reading = omega arith;
      below = omega (arith, f.le, units_le (toward_zero t r) t (omega arith));
      most = λ m h l. omega (arith, floor_iff n t m f l);
    }

-- the least at or above, where it is a reading's
record AwayIs (n v : ℕ) : Type 0 where
  pub reading : v < beyond
  pub above : n ≤ units v
  pub least : (m : ℕ) → n ≤ units m → v ≤ m

-- the least at or above, of a reading or not
record CeilIs (n v : ℕ) : Type 0 where
  pub above : n ≤ units v
  pub least : (m : ℕ) → n ≤ units m → v ≤ m

-- not below t + 1 where units t is below n
over : (n t : ℕ) → units t < n → (m : ℕ) → n ≤ units m → t + 1 ≤ m
over n t h m l = ⊎_elim (λ (k : t < m). omega arith) (λ (k : m ≤ t). absurd (omega (arith, units_le m t k))) (cases_lt t m)

next : (t : ℕ) → units (t + 1) ≡ units (suc t)
next t = let e : t + 1 ≡ suc t = omega arith in ap units e

ceil_at : (n t : ℕ) → units t < n → n ≤ units (suc t) → CeilIs n (t + 1)
ceil_at n t h k = record { above = omega (arith, next t); least = over n t h }

ceil_is : (n t : ℕ) (r : Rest) → Lies n t r → (v : ℕ) × (CeilIs n v) × (from_zero t r ≡ min v beyond)
ceil_is n t Exact c = (t, record { above = omega arith; least = λ m l. floor_iff (units m) m t (record { le = omega arith; lt = step m }) (omega arith) }, refl)
ceil_is n t BelowMiddle c = (t + 1, ceil_at n t c.0 (omega (arith, (lies_floor n t BelowMiddle c).lt)), refl)
ceil_is n t Middle c = (t + 1, ceil_at n t (omega (arith, step t)) (omega (arith, (lies_floor n t Middle c).lt)), refl)
ceil_is n t AboveMiddle c = (t + 1, ceil_at n t (omega (arith, step t, c.0)) (omega (arith, c.1)), refl)

away_is : (n t : ℕ) (r : Rest) → Lies n t r → (AwayIs n (from_zero t r)) ⊎ ((from_zero t r ≡ beyond) × ((m : ℕ) → m < beyond → units m < n))
away_is n t r c =
    let p = ceil_is n t r c in
    let v = p.0 in
    ⊎_elim (λ (h : v < beyond).
    let e : from_zero t r ≡ v = omega (arith, p.2) in
    inl (subst (λ (x : ℕ). AwayIs n x) (sym e) (record { reading = h; above = p.1.above; least = p.1.least })))
    (λ (h : beyond ≤ v). inr (omega (arith, p.2), λ m k. ⊎_elim (λ (l : units m < n). l) (λ (l : n ≤ units m). absurd (omega (arith, p.1.least m l))) (cases_lt (units m) n)))
    (cases_lt v beyond)

-- ---- whole numbers

pub reading_abs : (r : ℤ) → Reading r → unsigned_abs r < beyond
reading_abs r h = omega (arith, ints, h.0, h.1)

pub abs_reading : (r : ℤ) → unsigned_abs r < beyond → Reading r
abs_reading r h = (omega (arith, ints), omega (arith, ints))

reading_pos : (m : ℕ) → m < beyond → Reading (pos m)
reading_pos m h = abs_reading (pos m) h

reading_minus : (m : ℕ) → m < beyond → Reading (neg_ℤ (pos m))
reading_minus m h = abs_reading (neg_ℤ (pos m)) (omega (arith, ints))

value_minus : (u : ℕ) → value (neg_ℤ (pos u)) ≡ neg_ℤ (pos (units u))
value_minus u = value_neg (pos u)

down_pos : (n t : ℕ) (r : Rest) → Lies n t r → RoundsDown (pos n) (pos (toward_zero t r))
down_pos n t r c =
    let p = toward_is n t r c in inl (record {
      reading = reading_pos _ p.reading;
      below = (let h = p.below in omega (arith, ints));
      greatest = go;
    })
  where
    go : (s : ℤ) → Reading s → value s ≤ℤ pos n → s ≤ℤ pos (toward_zero t r)
    go (pos m) a b = (let h = (toward_is n t r c).most m (reading_abs (pos m) a) (omega (arith, ints)) in omega (arith, ints))
    go (negsuc m) a b = omega (arith, ints)

up_pos : (n t : ℕ) (r : Rest) → Lies n t r → RoundsUp (pos n) (pos (from_zero t r))
up_pos n t r c = ⊎_elim
    (λ (p : AwayIs n (from_zero t r)). inl (record {
      reading = reading_pos _ p.reading;
      above = (let h = p.above in omega (arith, ints));
      least = some p;
    }))
    (λ (p : (from_zero t r ≡ beyond) × ((m : ℕ) → m < beyond → units m < n)). inr (ap pos p.0, none p.1))
    (away_is n t r c)
  where
    some : AwayIs n (from_zero t r) → (s : ℤ) → Reading s → pos n ≤ℤ value s → pos (from_zero t r) ≤ℤ s
    some p (pos m) a b = (let h = p.least m (omega (arith, ints)) in omega (arith, ints))
    some p (negsuc m) a b = absurd (let h = units_lt 0 (suc m) (omega arith) in omega (arith, ints))

    none : ((m : ℕ) → m < beyond → units m < n) → (s : ℤ) → Reading s → value s <ℤ pos n
    none p (pos m) a = (let h = p m (reading_abs (pos m) a) in omega (arith, ints))
    none p (negsuc m) a = (let h = p 0 (omega arith) in omega (arith, ints))

up_neg : (n t : ℕ) (r : Rest) → Lies (suc n) t r → RoundsUp (negsuc n) (neg_ℤ (pos (toward_zero t r)))
up_neg n t r c =
    let p = toward_is (suc n) t r c in
    let h = p.below in
    let v = value_minus (toward_zero t r) in inl (record {
      reading = reading_minus _ p.reading;
      above = omega (arith, ints, v);
      least = go;
    })
  where
    go : (s : ℤ) → Reading s → negsuc n ≤ℤ value s → neg_ℤ (pos (toward_zero t r)) ≤ℤ s
    go (pos m) a b = omega (arith, ints)
    go (negsuc m) a b = (let h = (toward_is (suc n) t r c).most (suc m) (reading_abs (negsuc m) a) (omega (arith, ints)) in omega (arith, ints))

down_neg : (n t : ℕ) (r : Rest) → Lies (suc n) t r → RoundsDown (negsuc n) (neg_ℤ (pos (from_zero t r)))
down_neg n t r c = ⊎_elim
    (λ (p : AwayIs (suc n) (from_zero t r)).
    let h = p.above in
    let v = value_minus (from_zero t r) in inl (record {
      reading = reading_minus _ p.reading;
      below = omega (arith, ints, v);
      greatest = some p;
    }))
    (λ (p : (from_zero t r ≡ beyond) × ((m : ℕ) → m < beyond → units m < suc n)). inr (ap (λ (x : ℕ). neg_ℤ (pos x)) p.0, none p.1))
    (away_is (suc n) t r c)
  where
    some : AwayIs (suc n) (from_zero t r) → (s : ℤ) → Reading s → value s ≤ℤ negsuc n → s ≤ℤ neg_ℤ (pos (from_zero t r))
    some p (pos m) a b = absurd (omega (arith, ints))
    some p (negsuc m) a b = (let h = p.least (suc m) (omega (arith, ints)) in omega (arith, ints))

    none : ((m : ℕ) → m < beyond → units m < suc n) → (s : ℤ) → Reading s → negsuc n <ℤ value s
    none p (pos m) a = omega (arith, ints)
    none p (negsuc m) a = (let h = p (suc m) (reading_abs (negsuc m) a) in omega (arith, ints))

-- ---- nearest

abbrev gap : ℕ → ℕ → ℕ
gap a b = (a - b) + (b - a)

-- the nearest magnitude, at a tie the even one
record NearIs (n v : ℕ) : Type 0 where
  pub nearest : (m : ℕ) → gap n (units v) ≤ gap n (units m)
  pub even : (m : ℕ) → (m ≢ v) → gap n (units v) ≡ gap n (units m) → v % 2 ≡ 0

-- every rank lies at or below t, or at or above t + 1
sides : (P : ℕ → Type 0) (t : ℕ) → ((m : ℕ) → m < t → units m < units t → P m) → P t → P (suc t) → ((m : ℕ) → suc t < m → units (suc t) < units m → P m) → (m : ℕ) → P m
sides P t a b c d m =
    ⊎_elim (λ (h : m < t). a m h (units_lt m t h))
    (λ (h : t ≤ m). ⊎_elim (λ (k : suc t < m). d m k (units_lt (suc t) m k))
    (λ (k : m ≤ suc t). ⊎_elim (λ (l : t < m). let e : suc t ≡ m = omega arith in subst P e c) (λ (l : m ≤ t). let e : t ≡ m = omega arith in subst P e b) (cases_lt t m))
    (cases_lt (suc t) m))
    (cases_lt m t)

near_low : (n t : ℕ) → units t ≤ n → 2 * n < units t + units (suc t) → NearIs n t
near_low n t h k = record {
  nearest = sides (λ m. gap n (units t) ≤ gap n (units m)) t (λ m a b. omega arith) (omega arith) (omega arith) (λ m a b. omega arith);
  even = sides (λ m. (m ≢ t) → gap n (units t) ≡ gap n (units m) → t % 2 ≡ 0) t (λ m a b c d. absurd (omega arith)) (λ c d. absurd (c refl)) (λ c d. absurd (omega arith)) (λ m a b c d. absurd (omega arith));
}

near_high : (n t : ℕ) → n < units (suc t) → units t + units (suc t) < 2 * n → NearIs n (suc t)
near_high n t h k = record {
  nearest = sides (λ m. gap n (units (suc t)) ≤ gap n (units m)) t (λ m a b. omega arith) (omega arith) (omega arith) (λ m a b. omega arith);
  even = sides (λ m. (m ≢ suc t) → gap n (units (suc t)) ≡ gap n (units m) → suc t % 2 ≡ 0) t (λ m a b c d. absurd (omega arith)) (λ c d. absurd (omega arith)) (λ c d. absurd (c refl)) (λ m a b c d. absurd (omega arith));
}

-- at a tie either neighbour is nearest, and the even one is meant
near_half : (n t v : ℕ) → 2 * n ≡ units t + units (suc t) → v % 2 ≡ 0 → (v ≡ t) ⊎ (v ≡ suc t) → NearIs n v
near_half n t v e z w =
    let s = step t in
    let g : gap n (units v) ≡ n - units t = ⊎_elim (λ (p : v ≡ t). omega (arith, ap units p)) (λ (p : v ≡ suc t). omega (arith, ap units p)) w in
    record {
      nearest = sides (λ m. gap n (units v) ≤ gap n (units m)) t (λ m a b. omega arith) (omega arith) (omega arith) (λ m a b. omega arith);
      even = λ m c d. z;
    }

abbrev near_to : ℕ → Rest → ℕ
near_to t Exact = t
near_to t BelowMiddle = t
near_to t Middle = t + t % 2
near_to t AboveMiddle = t + 1

near_is : (n t : ℕ) (r : Rest) → Lies n t r → NearIs n (near_to t r)
near_is n t Exact c = near_low n t (omega arith) (omega (arith, step t))
near_is n t BelowMiddle c = near_low n t (omega (arith, c.0)) c.1
near_is n t Middle c = near_half n t (t + t % 2) c (omega arith) (⊎_elim (λ (h : t % 2 < 1). inl (omega arith)) (λ (h : 1 ≤ t % 2). inr (omega arith)) (cases_lt (t % 2) 1))
near_is n t AboveMiddle c = let e : suc t ≡ t + 1 = omega arith in subst (λ (x : ℕ). NearIs n x) e (near_high n t c.1 c.0)

nearer_min : (t : ℕ) (r : Rest) → to_nearest t r ≡ min (near_to t r) beyond
nearer_min t Exact = refl
nearer_min t BelowMiddle = refl
nearer_min t Middle = refl
nearer_min t AboveMiddle = refl

units_beyond : units beyond ≡ 2 ^ 277
unfolding units
units_beyond = refl

units_largest : units largest + 2 ^ 277 ≡ 2 * overflow
unfolding units
units_largest = refl

at_beyond : (t : ℕ) → t ≡ largest → (units t + 2 ^ 277 ≡ 2 * overflow) × (units (suc t) ≡ 2 ^ 277)
at_beyond t e = (omega (arith, units_largest, ap units e), ap (λ (x : ℕ). units (suc x)) e ∙ units_beyond)

-- a magnitude below the overflow limit is nearest to a reading, and any other to what lies beyond
module _ (n t : ℕ) where
  past : beyond ≤ t → 2 ^ 277 ≤ units t
  past h = omega (arith, units_le beyond t h, units_beyond)

  low_out : (r : Rest) → Lies n t r → n < overflow → t < beyond
  low_out r c l = ⊎_elim (λ (h : t < beyond). h) (λ (h : beyond ≤ t). absurd (omega (arith, past h, (lies_floor n t r c).le))) (cases_lt t beyond)

  last : t < beyond → largest ≤ t → t ≡ largest
  last a b = omega arith

  pub inside : (r : Rest) → Lies n t r → n < overflow → near_to t r < beyond
  inside Exact c l = low_out Exact c l
  inside BelowMiddle c l = low_out BelowMiddle c l
  inside Middle c l = ⊎_elim (λ (h : t < largest). omega arith) (λ (h : largest ≤ t). let p = at_beyond t (last (low_out Middle c l) h) in absurd (omega (arith, p.0, p.1))) (cases_lt t largest)
  inside AboveMiddle c l = ⊎_elim (λ (h : t < largest). omega arith) (λ (h : largest ≤ t). let p = at_beyond t (last (low_out AboveMiddle c l) h) in absurd (omega (arith, c.0, p.0, p.1))) (cases_lt t largest)

  high_in : (r : Rest) → Lies n t r → overflow ≤ n → largest ≤ t
  high_in r c l = ⊎_elim (λ (h : t < largest). absurd (omega (arith, units_le (suc t) largest h, (lies_floor n t r c).lt, units_largest))) (λ (h : largest ≤ t). h) (cases_lt t largest)

  pub outside : (r : Rest) → Lies n t r → overflow ≤ n → beyond ≤ near_to t r
  outside Exact c l = ⊎_elim (λ (h : t < beyond). let p = at_beyond t (last h (high_in Exact c l)) in absurd (omega (arith, p.0, p.1))) (λ (h : beyond ≤ t). h) (cases_lt t beyond)
  outside BelowMiddle c l = ⊎_elim (λ (h : t < beyond). let p = at_beyond t (last h (high_in BelowMiddle c l)) in absurd (omega (arith, c.1, p.0, p.1))) (λ (h : beyond ≤ t). h) (cases_lt t beyond)
  outside Middle c l = omega (arith, high_in Middle c l)
  outside AboveMiddle c l = omega (arith, high_in AboveMiddle c l)

-- ---- the same for whole numbers

dist_pos : (a b : ℕ) → unsigned_abs (pos a -ℤ pos b) ≡ gap a b
dist_pos a b = omega (arith, ints)

dist_neg : (a b : ℕ) → unsigned_abs (pos a -ℤ neg_ℤ (pos b)) ≡ a + b
dist_neg a b = omega (arith, ints)

dist_flip : (e v : ℤ) → unsigned_abs (neg_ℤ e -ℤ neg_ℤ v) ≡ unsigned_abs (e -ℤ v)
dist_flip e v = omega (arith, ints)

nearest_pos : (n v : ℕ) → v < beyond → NearIs n v → NearestToEven (pos n) (pos v)
nearest_pos n v b p = record { reading = reading_pos v b; nearest = close; even = tie }
  where
    close : (s : ℤ) → Reading s → distance (pos n) (pos v) ≤ distance (pos n) s
    close (pos m) a = omega (arith, dist_pos n (units v), dist_pos n (units m), p.nearest m)
    close (negsuc m) a = omega (arith, dist_pos n (units v), dist_neg n (units (suc m)), p.nearest 0, units_low 0 (omega arith))

    tie : (s : ℤ) → Reading s → s ≢ pos v → distance (pos n) (pos v) ≡ distance (pos n) s → v % 2 ≡ 0
    tie (pos m) a ne e = p.even m (λ q. ne (ap pos q)) (sym (dist_pos n (units v)) ∙ e ∙ dist_pos n (units m))
    tie (negsuc m) a ne e = absurd (omega (arith, e, dist_pos n (units v), dist_neg n (units (suc m)), p.nearest 0, units_low 0 (omega arith), units_lt 0 (suc m) (omega arith)))

reading_neg : (s : ℤ) → Reading s → Reading (neg_ℤ s)
reading_neg s a = let h = reading_abs s a in abs_reading (neg_ℤ s) (omega (arith, ints))

abs_neg : (s : ℤ) → unsigned_abs (neg_ℤ s) ≡ unsigned_abs s
abs_neg s = omega (arith, ints)

distance_flip : (e s : ℤ) → distance (neg_ℤ e) (neg_ℤ s) ≡ distance e s
distance_flip e s = ap (λ (v : ℤ). unsigned_abs (neg_ℤ e -ℤ v)) (value_neg s) ∙ dist_flip e (value s)

distance_back : (e s : ℤ) → distance (neg_ℤ e) s ≡ distance e (neg_ℤ s)
distance_back e s = sym (ap (λ (x : ℤ). distance (neg_ℤ e) x) (neg_ℤ-neg_ℤ s)) ∙ distance_flip e (neg_ℤ s)

nearest_flip : (e r : ℤ) → NearestToEven e r → NearestToEven (neg_ℤ e) (neg_ℤ r)
nearest_flip e r p = record {
  reading = reading_neg r p.reading;
  nearest = λ s a. omega (arith, distance_flip e r, distance_back e s, p.nearest (neg_ℤ s) (reading_neg s a));
  even = λ s a ne q. ap (λ (x : ℕ). x % 2) (abs_neg r) ∙ p.even (neg_ℤ s) (reading_neg s a) (λ g. ne (sym (neg_ℤ-neg_ℤ s) ∙ ap neg_ℤ g)) (sym (distance_flip e r) ∙ q ∙ distance_back e s);
}

module _ (n t : ℕ) (r : Rest) (c : Lies n t r) where
  nearest_in : n < overflow → NearestToEven (pos n) (pos (to_nearest t r))
  nearest_in l =
      let i = inside n t r c l in
      let e : near_to t r ≡ to_nearest t r = omega (arith, nearer_min t r) in
      subst (λ (x : ℕ). NearestToEven (pos n) (pos x)) e (nearest_pos n (near_to t r) i (near_is n t r c))

  nearest_out : overflow ≤ n → to_nearest t r ≡ beyond
  nearest_out l = omega (arith, nearer_min t r, outside n t r c l)

pub rounds : (m : Mode) (e : ℤ) → Rounds m e (rounded m e)
unfolding rounded
rounds Nearest (pos n) = ⊎_elim (λ (l : n < overflow). inl (l, nearest_in n _ _ (rest_lies n) l)) (λ (l : overflow ≤ n). inr (l, ap pos (nearest_out n _ _ (rest_lies n) l))) (cases_lt n overflow)
rounds Nearest (negsuc n) = ⊎_elim (λ (l : suc n < overflow). inl (l, nearest_flip (pos (suc n)) _ (nearest_in (suc n) _ _ (rest_lies (suc n)) l))) (λ (l : overflow ≤ suc n). inr (l, ap (λ (x : ℕ). neg_ℤ (pos x)) (nearest_out (suc n) _ _ (rest_lies (suc n)) l))) (cases_lt (suc n) overflow)
rounds Up (pos n) = up_pos n _ _ (rest_lies n)
rounds Up (negsuc n) = up_neg n _ _ (rest_lies (suc n))
rounds Down (pos n) = down_pos n _ _ (rest_lies n)
rounds Down (negsuc n) = down_neg n _ _ (rest_lies (suc n))
rounds TowardZero (pos n) = down_pos n _ _ (rest_lies n)
rounds TowardZero (negsuc n) = up_neg n _ _ (rest_lies (suc n))

-- ---- and they are the only ones

pub value_lt : (x y : ℤ) → x <ℤ y → value x <ℤ value y
value_lt (pos a) (pos b) h = let k = units_lt a b (omega (arith, ints)) in omega (arith, ints)
value_lt (pos a) (negsuc b) h = absurd h.lt
value_lt (negsuc a) (pos b) h = let k = units_lt 0 (suc a) (omega arith) in omega (arith, ints)
value_lt (negsuc a) (negsuc b) h = let k = units_lt (suc b) (suc a) (omega (arith, ints)) in omega (arith, ints)

up_one : (e r s : ℤ) → RoundsUp e r → RoundsUp e s → r ≡ s
up_one e r s (inl p) (inl q) = let a = p.least s q.reading q.above in let b = q.least r p.reading p.above in omega (arith, ints)
up_one e r s (inl p) (inr q) = absurd (let a = q.1 r p.reading in let b = p.above in omega (arith, ints))
up_one e r s (inr p) (inl q) = absurd (let a = p.1 s q.reading in let b = q.above in omega (arith, ints))
up_one e r s (inr p) (inr q) = p.0 ∙ sym q.0

down_one : (e r s : ℤ) → RoundsDown e r → RoundsDown e s → r ≡ s
down_one e r s (inl p) (inl q) = let a = p.greatest s q.reading q.below in let b = q.greatest r p.reading p.below in omega (arith, ints)
down_one e r s (inl p) (inr q) = absurd (let a = q.1 r p.reading in let b = p.below in omega (arith, ints))
down_one e r s (inr p) (inl q) = absurd (let a = p.1 s q.reading in let b = q.below in omega (arith, ints))
down_one e r s (inr p) (inr q) = p.0 ∙ sym q.0

-- of two even ranks the one between is nearer
apart : (e r s : ℤ) → NearestToEven e r → NearestToEven e s → r <ℤ s → ⊥
apart e r s p q h =
    let d : distance e r ≡ distance e s = omega (arith, p.nearest s q.reading, q.nearest r p.reading) in
    let a = p.even s q.reading (λ (g : s ≡ r). omega (arith, ints)) d in
    let b = q.even r p.reading (λ (g : r ≡ s). omega (arith, ints)) (sym d) in
    let pr = reading_abs r p.reading in
    let qr = reading_abs s q.reading in
    let u = r +ℤ pos 1 in
    let l1 : r <ℤ u = omega (arith, ints) in
    let l2 : u <ℤ s = omega (arith, ints) in
    let v1 = value_lt r u l1 in
    let v2 = value_lt u s l2 in
    let i = abs_reading u (omega (arith, ints)) in
    let n = p.nearest u i in
    omega (arith, ints)

near_one : (e r s : ℤ) → NearestToEven e r → NearestToEven e s → r ≡ s
near_one e r s p q = by_lt_z r s (λ (h : r <ℤ s). absurd (apart e r s p q h)) (λ (h : s ≤ℤ r). by_lt_z s r (λ (k : s <ℤ r). absurd (apart e s r q p k)) (λ (k : r ≤ℤ s). omega (arith, ints)))

pub rounds_one : (m : Mode) (e r s : ℤ) → Rounds m e r → Rounds m e s → r ≡ s
rounds_one Nearest e r s (inl p) (inl q) = near_one e r s p.1 q.1
rounds_one Nearest e r s (inl p) (inr q) = absurd (omega (arith, p.0, q.0))
rounds_one Nearest e r s (inr p) (inl q) = absurd (omega (arith, p.0, q.0))
rounds_one Nearest e r s (inr p) (inr q) = p.1 ∙ sym q.1
rounds_one Up e r s p q = up_one e r s p q
rounds_one Down e r s p q = down_one e r s p q
rounds_one TowardZero (pos n) r s p q = down_one (pos n) r s p q
rounds_one TowardZero (negsuc n) r s p q = up_one (negsuc n) r s p q
