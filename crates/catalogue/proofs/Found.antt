-- The computed partner is some y that makes an allowed triple, and none exactly if there is none.
use Rattle.std.proofs.Common.{◌≡◌, Bool, true, ◌&&◌, ◌⊎◌, ℤ, ◌≤ℤ◌, Some, None, Option, sym, refl, ap, ◌∙◌, subst, inl, inr, ⊎_elim, arith}
use lib.Signed.{le_z}
use Rattle.std.proofs.lemmas.Int.{ints, clamps}
use Rattle.std.proofs.lemmas.Bool.{both_ways, cond_both, and_parts, and_from}
use Rattle.std.specs.Option.{option_or}
use Rattle.catalogue.specs.declared.types.Kind.{Kind}
use Rattle.catalogue.specs.declared.types.Kind.TheVariants.{Sum, Difference, Peak}
use Rattle.catalogue.specs.declared.types.Mode.{Mode}
use Rattle.catalogue.specs.declared.types.Mode.TheVariants.{Nearest, Up, Down, TowardZero}
use Rattle.catalogue.specs.declared.types.Modes.{Modes}
use Rattle.catalogue.specs.declared.types.Range.{Range}
use Rattle.catalogue.specs.Modes.{has_mode, only}
use Rattle.catalogue.specs.Ranges.{Holds, holds, meet, unless_empty}
use Rattle.catalogue.specs.Operations.{Arith, ArithLaws, Reading, readings, nearest_reading, span_of, equal, allowed}
use Rattle.catalogue.specs.Search.{passes, rises, edge}
use Rattle.catalogue.specs.Partners.{SomeOf, first_y, if_met, partner_by, partner_in, partnered}
use Rattle.catalogue.proofs.Sets.{only_least, only_greatest}
use Rattle.catalogue.proofs.Rising.{le_true, true_le, nearest_self}
use Rattle.catalogue.proofs.Allowed.{allowed_by, by_allowed, equal_true, true_equal, holds_true}
use Rattle.catalogue.proofs.Cuts.{Sound, cut_sound_of}
use Rattle.catalogue.proofs.Words.{Edge, edge_is, within_reads}

-- some rank of a range with a property, or none exactly if there is none
abbrev FoundIn : Range → (ℤ → Type 0) → Option ℤ → Type 0
FoundIn r P None = (v : ℤ) → Holds r v → P v → ⊥
FoundIn r P (Some v) = Holds r v × P v

or_else_is : (r : Range) (P Q : ℤ → Type 0) (o u : Option ℤ) → FoundIn r P o → FoundIn r Q u → FoundIn r (λ v. P v ⊎ Q v) (option_or o u)
or_else_is r P Q None None a b = λ v k. ⊎_elim (a v k) (b v k)
or_else_is r P Q None (Some w) a b = (b.0, inr b.1)
or_else_is r P Q (Some v) u a b = (a.0, inl a.1)

module _ (a : Arith) (laws : ArithLaws a) (m : Mode) (x z : ℤ) (rx : Reading a x) where
  -- at readings, the code's result under one mode is the arithmetic's
  least_at : (k : Kind) (v : ℤ) → Reading a v → (span_of a k (only m) x v).least ≡ a.result k m x v
  least_at k v rv = only_least m (λ n. a.result k n (nearest_reading a x) (nearest_reading a v))
      ∙ ap (λ u. a.result k m u (nearest_reading a v)) (nearest_self a x rx) ∙ ap (a.result k m x) (nearest_self a v rv)

  greatest_at : (k : Kind) (v : ℤ) → Reading a v → (span_of a k (only m) x v).greatest ≡ a.result k m x v
  greatest_at k v rv = only_greatest m (λ n. a.result k n (nearest_reading a x) (nearest_reading a v))
      ∙ ap (λ u. a.result k m u (nearest_reading a v)) (nearest_self a x rx) ∙ ap (a.result k m x) (nearest_self a v rv)

  -- a result that is z passes
  met : (k : Kind) (v : ℤ) → Reading a v → z ≡ a.result k m x v → passes a (first_y k m x z) v ≡ true
  unfolding passes
  met Sum v rv e = let g = greatest_at Sum v rv in true_le z (span_of a Sum (only m) x v).greatest (omega (arith, ints))
  met Difference v rv e = let g = least_at Difference v rv in true_le (span_of a Difference (only m) x v).least z (omega (arith, ints))
  met Peak v rv e = let g = greatest_at Peak v rv in true_le z (span_of a Peak (only m) x v).greatest (omega (arith, ints))

  -- and then the first that passes has it too
  first_met : (k : Kind) (e v : ℤ) → Reading a e → e ≤ℤ v → passes a (first_y k m x z) e ≡ true → z ≡ a.result k m x v → a.result k m x e ≡ z
  unfolding passes
  first_met Sum e v re h p q = let g = greatest_at Sum e re in let l = le_true z (span_of a Sum (only m) x e).greatest p in let i = laws.in_y Sum m x e v h in omega (arith, ints)
  first_met Difference e v re h p q = let g = least_at Difference e re in let l = le_true (span_of a Difference (only m) x e).least z p in let i = laws.in_y Difference m x e v h in omega (arith, ints)
  first_met Peak e v re h p q = let g = greatest_at Peak e re in let l = le_true z (span_of a Peak (only m) x e).greatest p in let i = laws.in_y Peak m x e v h in omega (arith, ints)

  up : (k : Kind) → rises (first_y k m x z) ≡ true
  up Sum = refl
  up Difference = refl
  up Peak = refl

  module _ (k : Kind) (y : Range) (so : Sound a y) where
    abbrev Meets : ℤ → Type 0
    Meets v = z ≡ a.result k m x v

    if_met_is : (o : Option ℤ) → Edge true y (passes a (first_y k m x z)) o → FoundIn y Meets (if_met a k m x z o)
    if_met_is None h = λ v i e. both_ways (passes a (first_y k m x z) v) (h v i) (met k v (within_reads a y v so i) e)
    if_met_is (Some e) h =
        let here = least_at k e (within_reads a y e so h.0) in
        cond_both (equal (span_of a k (only m) x e).least z) (Some e) None (FoundIn y Meets)
        (λ t. (h.0, sym (true_equal _ _ t) ∙ here))
        (λ t v i q. let s = first_met k e v (within_reads a y e so h.0) (h.2 v i (met k v (within_reads a y v so i) q)) (h.1 e h.0 (omega (arith, ints))) q in
        both_ways (equal (span_of a k (only m) x e).least z) t (equal_true _ _ (here ∙ s)))

    abbrev By : Modes → ℤ → Type 0
    By s v = (has_mode s m ≡ true) × (z ≡ a.result k m x v)

    found_map : (s : Modes) → has_mode s m ≡ true → (o : Option ℤ) → FoundIn y Meets o → FoundIn y (By s) o
    found_map s e None h = λ v i q. h v i q.1
    found_map s e (Some v) h = (h.0, (e, h.1))

    by_is : (s : Modes) → FoundIn y (By s) (partner_by a k s x z y m)
    by_is s = cond_both (has_mode s m) (if_met a k m x z (edge a (first_y k m x z) y)) None (FoundIn y (By s))
        (λ e. found_map s e _ (if_met_is _ (subst (λ b. Edge b y (passes a (first_y k m x z)) (edge a (first_y k m x z) y)) (up k) (edge_is a laws (first_y k m x z) y so))))
        (λ e v i q. both_ways (has_mode s m) e q.0)

module _ (a : Arith) (laws : ArithLaws a) (k : Kind) (s : Modes) (x z : ℤ) (rx : Reading a x) (rz : Reading a z) where
  abbrev By4 : Mode → ℤ → Type 0
  By4 m v = (has_mode s m ≡ true) × (z ≡ a.result k m x v)

  abbrev Some4 : ℤ → Type 0
  Some4 v = By4 Nearest v ⊎ (By4 Up v ⊎ (By4 Down v ⊎ By4 TowardZero v))

  four : (y : Range) → Sound a y → FoundIn y Some4 (partner_in a k s x z (Some y))
  four y so = or_else_is y _ _ _ _ (by_is a laws Nearest x z rx k y so s) (or_else_is y _ _ _ _ (by_is a laws Up x z rx k y so s) (or_else_is y _ _ _ _ (by_is a laws Down x z rx k y so s) (by_is a laws TowardZero x z rx k y so s)))

  with_mode : (v : ℤ) → Reading a v → Some4 v → allowed a k s x v z ≡ true
  with_mode v rv h =
      let by : (m : Mode) → By4 m v → allowed a k s x v z ≡ true = λ m q. by_allowed a k s x v z (record { x_reads = rx; y_reads = rv; z_reads = rz; mode = m; among = q.0; is = q.1 }) in
      ⊎_elim (by Nearest) (⊎_elim (by Up) (⊎_elim (by Down) (by TowardZero))) h

  mode_with : (v : ℤ) → allowed a k s x v z ≡ true → Some4 v
  mode_with v h = let b = allowed_by a k s x v z h in which b.mode (b.among, b.is)
    where
      which : (m : Mode) → By4 m v → Some4 v
      which Nearest q = inl q
      which Up q = inr (inl q)
      which Down q = inr (inr (inl q))
      which TowardZero q = inr (inr (inr q))

  abbrev P : ℤ → Bool
  P v = allowed a k s x v z

  widen : (y : Range) → Sound a (meet (readings a) y) → (o : Option ℤ) → FoundIn (meet (readings a) y) Some4 o → SomeOf y P o
  widen y so None h = λ v i e. let b = allowed_by a k s x v z e in
      h v (omega (arith, ints, clamps, i.0, b.y_reads.0), omega (arith, ints, clamps, i.1, b.y_reads.1)) (mode_with v e)
  widen y so (Some v) h =
      let rv : Reading a v = (omega (arith, ints, clamps, h.0.0), omega (arith, ints, clamps, h.0.1)) in
      ((omega (arith, ints, clamps, h.0.0), omega (arith, ints, clamps, h.0.1)), with_mode v rv h.1)

  in_is : (y : Range) → SomeOf y P (partner_in a k s x z (unless_empty (meet (readings a) y)))
  in_is y =
      let c = meet (readings a) y in
      cond_both (le_z c.low c.high) (Some c) None (λ o. SomeOf y P (partner_in a k s x z o))
      (λ e. let so = cut_sound_of a y (le_true c.low c.high e) in widen y so _ (four c so))
      (λ e v i h. let b = allowed_by a k s x v z h in let r = b.y_reads in
      both_ways (le_z c.low c.high) e (true_le c.low c.high (omega (arith, ints, clamps, i.0, i.1, r.0, r.1))))

module _ (a : Arith) (laws : ArithLaws a) (k : Kind) (s : Modes) (x z : ℤ) (y : Range) where
  pub partnered_is : SomeOf y (λ v. allowed a k s x v z) (partnered a k s x z y)
  partnered_is = cond_both (holds (readings a) x && holds (readings a) z) _ None (SomeOf y (λ v. allowed a k s x v z))
      (λ e. let h = and_parts (holds (readings a) x) (holds (readings a) z) e in in_is a laws k s x z (holds_true _ x h.0) (holds_true _ z h.1) y)
      (λ e v i h. let p = and_parts ((holds (readings a) x && (holds (readings a) v && holds (readings a) z))) _ h in
      let q = and_parts (holds (readings a) x) (holds (readings a) v && holds (readings a) z) p.0 in
      both_ways (holds (readings a) x && holds (readings a) z) e (and_from (holds (readings a) x) (holds (readings a) z) q.0 (and_parts (holds (readings a) v) (holds (readings a) z) q.1).1))
