-- The computed narrowing is the one in words.
use Rattle.std.proofs.Common.{◌≡◌, ℕ, ◌^◌, ◌<◌, ◌≤◌, Bool, true, false, ◌⊎◌, ℤ, pos, negsuc, ◌-ℤ◌, nat_abs, ◌≤ℤ◌, Some, None, Option, sym, refl, ap, ◌∙◌, subst, inl, inr, ⊎_elim, arith, w32, SFits}
use lib.Signed.{le_z}
use Rattle.std.proofs.lemmas.Int.{ints, clamps}
use Rattle.std.proofs.lemmas.Bool.{both_ways, cases_lt, cases_Bool, cond_both, cond-true, cond-false}
use Rattle.catalogue.specs.declared.types.Kind.{Kind}
use Rattle.catalogue.specs.declared.types.Kind.TheVariants.{Sum, Difference, Peak}
use Rattle.catalogue.specs.declared.types.Modes.{Modes}
use Rattle.catalogue.specs.declared.types.Operand.{Operand}
use Rattle.catalogue.specs.declared.types.Operand.TheVariants.{X, Y}
use Rattle.catalogue.specs.declared.types.Question.{Question}
use Rattle.catalogue.specs.declared.types.Range.{Range}
use Rattle.catalogue.specs.declared.types.Triple.{Triple}
use Rattle.catalogue.specs.First.{first, First}
use Rattle.catalogue.specs.Ranges.{Holds, Proper, unless_empty, meet, extent, all_three}
use Rattle.catalogue.specs.Operations.{Arith, ArithLaws, Reading, least_result, greatest_result, nearest_reading}
use Rattle.catalogue.specs.Narrowing.{y_for_least, y_for_greatest, cut_to_readings, KeepsX, KeepsY, KeepsZ, Exactly, NarrowsReadings, Narrows}
use Rattle.catalogue.specs.Search.{passes, rises, moved, origin, reached, edge, between, reaches, stays_in, kept, results, narrowed_readings, narrowed_cut, narrowed}
use Rattle.catalogue.proofs.Firsts.{first_is}
use Rattle.catalogue.proofs.Rising.{stays, on, le_true, true_le, reading_fits, nearest_self}
use Rattle.catalogue.proofs.Edges.{apart}
use Rattle.catalogue.proofs.Cuts.{Sound, Sound3, cut_sound_of}

-- e is where passing begins or ends
abbrev pub Past : Bool → ℤ → ℤ → Type 0
Past true e v = e ≤ℤ v
Past false e v = v ≤ℤ e

abbrev pub Edge : Bool → Range → (ℤ → Bool) → Option ℤ → Type 0
Edge b r p None = (v : ℤ) → Holds r v → p v ≡ false
Edge b r p (Some e) = Holds r e × ((v : ℤ) → Holds r v → Past b e v → p v ≡ true) × ((v : ℤ) → Holds r v → p v ≡ true → Past b e v)

-- a rank of the range, as so many on
abbrev steps : Bool → Range → ℤ → ℕ
steps true r v = nat_abs (v -ℤ r.low)
steps false r v = nat_abs (r.high -ℤ v)

steps_is : (b : Bool) (r : Range) (v : ℤ) → Holds r v → (v ≡ moved b (origin b r) (steps b r v)) × (steps b r v ≤ extent r)
steps_is true r v h =
    let e = apart r.low v h.0 in
    let f = apart r.low r.high (omega (arith, ints, h.0, h.1)) in
    (omega (arith, ints), omega (arith, ints, h.1))
steps_is false r v h =
    let e = apart v r.high h.1 in
    let f = apart r.low r.high (omega (arith, ints, h.0, h.1)) in
    (omega (arith, ints), omega (arith, ints, h.0))

on_holds : (b : Bool) (r : Range) (k : ℕ) → r.low ≤ℤ r.high → k ≤ extent r → Holds r (moved b (origin b r) k)
on_holds true r k le h = let f = apart r.low r.high le in (omega (arith, ints), omega (arith, ints))
on_holds false r k le h = let f = apart r.low r.high le in (omega (arith, ints), omega (arith, ints))

past_on : (b : Bool) (f : ℤ) (j k : ℕ) → Past b (moved b f j) (moved b f k) → j ≤ k
past_on true f j k h = omega (arith, ints)
past_on false f j k h = omega (arith, ints)

on_past : (b : Bool) (f : ℤ) (j k : ℕ) → j ≤ k → Past b (moved b f j) (moved b f k)
on_past true f j k h = omega (arith, ints)
on_past false f j k h = omega (arith, ints)

extent_fits : (r : Range) → SFits w32 r.low → SFits w32 r.high → r.low ≤ℤ r.high → extent r < 2 ^ 32
extent_fits r a b h = small r.low r.high a b h
  where
    small : (l h : ℤ) → SFits w32 l → SFits w32 h → l ≤ℤ h → nat_abs (h -ℤ l) < 2 ^ 32
    small (pos l) (pos h) a b e = let f = apart (pos l) (pos h) e in omega (arith, ints, b.sfits)
    small (pos l) (negsuc h) a b e = absurd e.le
    small (negsuc l) (pos h) a b e = let f = apart (negsuc l) (pos h) e in omega (arith, ints, a.sfits, b.sfits)
    small (negsuc l) (negsuc h) a b e = let f = apart (negsuc l) (negsuc h) e in omega (arith, ints, a.sfits)

module _ (p : ℤ → Bool) (b : Bool) (r : Range) (le : r.low ≤ℤ r.high) (st : (j k : ℕ) → j ≤ k → p (moved b (origin b r) j) ≡ true → p (moved b (origin b r) k) ≡ true) where
  abbrev q : ℕ → Bool
  q k = p (moved b (origin b r) k)

  reached_is : (o : Option ℕ) → First q (extent r) o → Edge b r p (reached b (origin b r) o)
  reached_is None h = λ v hv. let s = steps_is b r v hv in ap p s.0 ∙ h (steps b r v) s.1
  reached_is (Some k) h = (
    on_holds b r k le h.0,
    (λ v hv pv. let s = steps_is b r v hv in ap p s.0 ∙ st k (steps b r v) (past_on b (origin b r) k (steps b r v) (subst (Past b (moved b (origin b r) k)) s.0 pv)) h.1),
    (λ v hv t. let s = steps_is b r v hv in subst (Past b (moved b (origin b r) k)) (sym s.0) (on_past b (origin b r) k (steps b r v) (least v hv t s))),
  )
    where
      least : (v : ℤ) → Holds r v → p v ≡ true → (v ≡ moved b (origin b r) (steps b r v)) × (steps b r v ≤ extent r) → k ≤ steps b r v
      least v hv t s = ⊎_elim (λ (lt : steps b r v < k). absurd (both_ways (q (steps b r v)) (h.2 (steps b r v) lt) (sym (ap p s.0) ∙ t))) (λ l. l) (cases_lt (steps b r v) k)

module _ (a : Arith) (laws : ArithLaws a) where
  pub edge_is : (q : Question) (r : Range) → Sound a r → Edge (rises q) r (passes a q) (edge a q r)
  unfolding edge
  edge_is q r s =
      let f = origin (rises q) r in
      reached_is (passes a q) (rises q) r s.2 (on a laws q f (rises q) refl)
      (first (λ k. passes a q (moved (rises q) f k)) (extent r))
      (first_is (λ k. passes a q (moved (rises q) f k)) (extent r) (stays a laws q f (extent r)) (extent_fits r (reading_fits a laws _ s.0) (reading_fits a laws _ s.1) s.2))

-- ---- ranges that hold exactly what is kept
abbrev pub ExactlyO : (ℤ → Type 0) → Option Range → Type 0
ExactlyO P None = (v : ℤ) → P v → ⊥
ExactlyO P (Some r) = Exactly P r

exactly_map : (P Q : ℤ → Type 0) → ((v : ℤ) → P v → Q v) → ((v : ℤ) → Q v → P v) → (o : Option Range) → ExactlyO P o → ExactlyO Q o
exactly_map P Q f g None h = λ v q. h v (g v q)
exactly_map P Q f g (Some r) h = record { some = h.some; only = λ v k. f v (h.only v k); all = λ v q. h.all v (g v q) }

not_le : (l h v : ℤ) → le_z l h ≡ false → l ≤ℤ v → v ≤ℤ h → ⊥
not_le l h v e a b = both_ways (le_z l h) e (true_le l h (omega (arith, ints)))

unless_empty_is : (r : Range) → ExactlyO (Holds r) (unless_empty r)
unless_empty_is r = cond_both (le_z r.low r.high) (Some r) None (ExactlyO (Holds r))
    (λ e. record { some = le_true _ _ e; only = λ v h. h; all = λ v h. h })
    (λ e v h. not_le r.low r.high v e h.0 h.1)

meet_is : (r w : Range) → ExactlyO (λ v. Holds r v × (w.low ≤ℤ v) × (v ≤ℤ w.high)) (unless_empty (meet r w))
meet_is r w = exactly_map (Holds (meet r w)) _
    (λ v h. ((omega (arith, ints, clamps, h.0), omega (arith, ints, clamps, h.1)), omega (arith, ints, clamps, h.0), omega (arith, ints, clamps, h.1)))
    (λ v h. (omega (arith, ints, clamps, h.0.0, h.1), omega (arith, ints, clamps, h.0.1, h.2)))
    (unless_empty (meet r w)) (unless_empty_is (meet r w))

module _ (r : Range) (p q : ℤ → Bool) where
  abbrev Both : ℤ → Type 0
  Both v = Holds r v × (p v ≡ true) × (q v ≡ true)

  between_is : (o u : Option ℤ) → Edge true r p o → Edge false r q u → ExactlyO Both (between o u)
  between_is None u a b = λ v h. both_ways (p v) (a v h.0) h.1
  between_is (Some l) None a b = λ v h. both_ways (q v) (b v h.0) h.2
  between_is (Some l) (Some h) a b =
      let s : Range = record { low = l; high = h } in
      exactly_map (Holds s) Both
      (λ v k. let w : Holds r v = (omega (arith, ints, a.0.0, k.0), omega (arith, ints, b.0.1, k.1)) in (w, a.1 v w k.0, b.1 v w k.1))
      (λ v k. (a.2 v k.0 k.1, b.2 v k.0 k.2))
      (unless_empty s) (unless_empty_is s)

kept_is : (a : Arith) → ArithLaws a → (k : Kind) (s : Modes) (p : Operand) (r : Range) → Sound a r → (n f : ℤ) (z : Range) → ExactlyO (λ v. Holds r v × (passes a (reaches k s p f z) v ≡ true) × (passes a (stays_in k s p n z) v ≡ true)) (kept a k s p r n f z)
kept_is a laws k s X r so n f z = between_is r _ _ _ _ (edge_is a laws (reaches k s X f z) r so) (edge_is a laws (stays_in k s X n z) r so)
kept_is a laws Sum s Y r so n f z = between_is r _ _ _ _ (edge_is a laws (reaches Sum s Y f z) r so) (edge_is a laws (stays_in Sum s Y n z) r so)
kept_is a laws Difference s Y r so n f z = exactly_map _ _ (λ v h. (h.0, h.2, h.1)) (λ v h. (h.0, h.2, h.1)) _
    (between_is r _ _ _ _ (edge_is a laws (stays_in Difference s Y n z) r so) (edge_is a laws (reaches Difference s Y f z) r so))
kept_is a laws Peak s Y r so n f z = between_is r _ _ _ _ (edge_is a laws (reaches Peak s Y f z) r so) (edge_is a laws (stays_in Peak s Y n z) r so)

-- where operands are readings, the code's operands are those of the rules
module _ (a : Arith) where
  to_readings : (P : ℤ → ℤ → Type 0) (v w : ℤ) → Reading a v → Reading a w → P (nearest_reading a v) (nearest_reading a w) → P v w
  to_readings P v w p q h = subst (λ u. P u w) (nearest_self a v p) (subst (P (nearest_reading a v)) (nearest_self a w q) h)

  from_readings : (P : ℤ → ℤ → Type 0) (v w : ℤ) → Reading a v → Reading a w → P v w → P (nearest_reading a v) (nearest_reading a w)
  from_readings P v w p q h = subst (λ u. P u (nearest_reading a w)) (sym (nearest_self a v p)) (subst (P v) (sym (nearest_self a w q)) h)

  for_least_reads : (k : Kind) (y : Range) → Sound a y → Reading a (y_for_least k y)
  for_least_reads Sum y h = h.0
  for_least_reads Difference y h = h.1
  for_least_reads Peak y h = h.0

  for_greatest_reads : (k : Kind) (y : Range) → Sound a y → Reading a (y_for_greatest k y)
  for_greatest_reads Sum y h = h.1
  for_greatest_reads Difference y h = h.0
  for_greatest_reads Peak y h = h.1

  pub within_reads : (r : Range) (v : ℤ) → Sound a r → Holds r v → Reading a v
  within_reads r v so h = (omega (arith, ints, so.0.0, h.0), omega (arith, ints, so.1.1, h.1))

module _ (a : Arith) (laws : ArithLaws a) (k : Kind) (s : Modes) where
  abbrev Reach : ℤ → ℤ → ℤ → Type 0
  Reach b u w = b ≤ℤ greatest_result a k s u w

  abbrev Stay : ℤ → ℤ → ℤ → Type 0
  Stay b u w = least_result a k s u w ≤ℤ b

  x_is : (c : Triple) → Sound3 a c → ExactlyO (KeepsX a k s c) (kept a k s X c.x (y_for_least k c.y) (y_for_greatest k c.y) c.z)
  unfolding passes
  x_is c so =
      let f = for_greatest_reads a k c.y so.1 in
      let n = for_least_reads a k c.y so.1 in
      exactly_map _ (KeepsX a k s c)
      (λ v h. let r = within_reads a c.x v so.0 h.0 in
      (h.0, to_readings a (Reach c.z.low) v _ r f (le_true _ _ h.1), to_readings a (Stay c.z.high) v _ r n (le_true _ _ h.2)))
      (λ v h. let r = within_reads a c.x v so.0 h.0 in
      (h.0, true_le _ _ (from_readings a (Reach c.z.low) v _ r f h.1), true_le _ _ (from_readings a (Stay c.z.high) v _ r n h.2)))
      _ (kept_is a laws k s X c.x so.0 (y_for_least k c.y) (y_for_greatest k c.y) c.z)

  y_is : (c : Triple) → Sound3 a c → ExactlyO (KeepsY a k s c) (kept a k s Y c.y c.x.low c.x.high c.z)
  unfolding passes
  y_is c so =
      exactly_map _ (KeepsY a k s c)
      (λ v h. let r = within_reads a c.y v so.1 h.0 in
      (h.0, to_readings a (Reach c.z.low) _ v so.0.1 r (le_true _ _ h.1), to_readings a (Stay c.z.high) _ v so.0.0 r (le_true _ _ h.2)))
      (λ v h. let r = within_reads a c.y v so.1 h.0 in
      (h.0, true_le _ _ (from_readings a (Reach c.z.low) _ v so.0.1 r h.1), true_le _ _ (from_readings a (Stay c.z.high) _ v so.0.0 r h.2)))
      _ (kept_is a laws k s Y c.y so.1 c.x.low c.x.high c.z)

  z_is : (c : Triple) → Sound3 a c → ExactlyO (KeepsZ a k s c) (unless_empty (meet c.z (results a k s c.x c.y)))
  z_is c so =
      let f = for_greatest_reads a k c.y so.1 in
      let n = for_least_reads a k c.y so.1 in
      exactly_map _ (KeepsZ a k s c)
      (λ v h. (h.0, to_readings a (Stay v) _ _ so.0.0 n h.1, to_readings a (Reach v) _ _ so.0.1 f h.2))
      (λ v h. (h.0, from_readings a (Stay v) _ _ so.0.0 n h.1, from_readings a (Reach v) _ _ so.0.1 f h.2))
      _ (meet_is c.z (results a k s c.x c.y))

  three_are : (c : Triple) (x y z : Option Range) → ExactlyO (KeepsX a k s c) x → ExactlyO (KeepsY a k s c) y → ExactlyO (KeepsZ a k s c) z → NarrowsReadings a k s c (all_three x y z)
  three_are c None y z p q r = λ u v w i j l. p u i
  three_are c (Some x) None z p q r = λ u v w i j l. q v j
  three_are c (Some x) (Some y) None p q r = λ u v w i j l. r w l
  three_are c (Some x) (Some y) (Some z) p q r = (p, q, r)

  readings_are : (c : Triple) → Sound3 a c → NarrowsReadings a k s c (narrowed_readings a k s c)
  readings_are c so = three_are c _ _ _ (x_is c so) (y_is c so) (z_is c so)

  -- a range that is there, or holds nothing
  abbrev Full : Range → Type 0
  Full r = (unless_empty r ≡ Some r) × Proper r

  abbrev Empty : Range → Type 0
  Empty r = (unless_empty r ≡ None) × ((v : ℤ) → Holds r v → ⊥)

  full_or_empty : (r : Range) → Full r ⊎ Empty r
  full_or_empty r = ⊎_elim
      (λ (e : le_z r.low r.high ≡ true). inl (cond-true _ (Some r) None e, le_true _ _ e))
      (λ (e : le_z r.low r.high ≡ false). inr (cond-false _ (Some r) None e, λ v h. not_le _ _ v e h.0 h.1))
      (cases_Bool (le_z r.low r.high))

  pub narrowed_is : (t : Triple) → Narrows a k s t (narrowed a k s t)
  narrowed_is t =
      let c = cut_to_readings a t in
      let N : Option Range → Option Range → Option Range → Type 0 = λ x y z. NarrowsReadings a k s c (narrowed_cut a k s (all_three x y z)) in
      ⊎_elim (λ (x : Full c.x). subst (λ o. N o (unless_empty c.y) (unless_empty c.z)) (sym x.0)
      (⊎_elim (λ (y : Full c.y). subst (λ o. N (Some c.x) o (unless_empty c.z)) (sym y.0)
      (⊎_elim (λ (z : Full c.z). subst (λ o. N (Some c.x) (Some c.y) o) (sym z.0)
      (readings_are c (cut_sound_of a t.x x.1, cut_sound_of a t.y y.1, cut_sound_of a t.z z.1)))
      (λ (z : Empty c.z). subst (λ o. N (Some c.x) (Some c.y) o) (sym z.0) (λ u v w i j l. z.1 w l.0))
      (full_or_empty c.z)))
      (λ (y : Empty c.y). subst (λ o. N (Some c.x) o (unless_empty c.z)) (sym y.0) (λ u v w i j l. y.1 v j.0))
      (full_or_empty c.y)))
      (λ (x : Empty c.x). subst (λ o. N o (unless_empty c.y) (unless_empty c.z)) (sym x.0) (λ u v w i j l. x.1 u i.0))
      (full_or_empty c.x)
