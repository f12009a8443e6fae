-- Operands that keep both ends of their ranges keep all of them.
use Rattle.std.proofs.Common.{◌≡◌, true, ℤ, ◌≤ℤ◌, Some, None, Option, sym, ap, ◌∙◌, subst, w32, SFits}
use lib.Signed.{le_z}
use Rattle.std.proofs.lemmas.Bool.{and_parts, cond-true}
use Rattle.catalogue.specs.declared.types.Kind.{Kind}
use Rattle.catalogue.specs.declared.types.Kind.TheVariants.{Sum, Difference, Peak}
use Rattle.catalogue.specs.declared.types.Modes.{Modes}
use Rattle.catalogue.specs.declared.types.Operand.TheVariants.{X, Y}
use Rattle.catalogue.specs.declared.types.Question.{Question}
use Rattle.catalogue.specs.declared.types.Range.{Range}
use Rattle.catalogue.specs.declared.types.Span.{Span}
use Rattle.catalogue.specs.declared.types.Triple.{Triple}
use Rattle.catalogue.specs.Narrowing.{y_for_least, y_for_greatest}
use Rattle.catalogue.specs.Operations.{Arith, ArithLaws, span_of}
use Rattle.catalogue.specs.Ranges.{Proper, all_three, holds_all, meet, unless_empty}
use Rattle.catalogue.specs.Search.{between, edge, keeps_x, keeps_y, narrowed_readings, origin, passes, reaches, results, rises, stays_in}
use Rattle.catalogue.specs.Whole.{reaches_into, span_at_high, span_at_low}
use Rattle.catalogue.proofs.Sets.{le_then, least_greatest}
use Rattle.catalogue.proofs.Edges.{edge_at_once}
use Rattle.catalogue.proofs.Rising.{true_le, le_true, nearest_mono, least_x, greatest_x, least_y, greatest_y}

-- the range between its own ends
whole : (r : Range) → Proper r → (l h : Option ℤ) → Some r.low ≡ l → Some r.high ≡ h → Some r ≡ between l h
whole r p l h el eh =
    sym (cond-true (le_z r.low r.high) (Some r) None (true_le r.low r.high p))
    ∙ ap (between (Some r.low)) eh ∙ ap (λ (v : Option ℤ). between v h) el

module _ (a : Arith) (laws : ArithLaws a) (s : Modes) where
  at_end : (q : Question) (r : Range) → SFits w32 r.low → SFits w32 r.high → true ≡ passes a q (origin (rises q) r) → Some (origin (rises q) r) ≡ edge a q r
  at_end q r l h t = edge_at_once a q r laws l h (origin (rises q) r) (λ i. origin (rises q) r) t

  -- what the tests say of the two spans
  record Ends (k : Kind) (t : Triple) : Type 0 where
    low_reaches : true ≡ le_z t.z.low (span_of a k s t.x.low (y_for_greatest k t.y)).greatest
    low_stays : true ≡ le_z (span_of a k s t.x.low (y_for_greatest k t.y)).least t.z.high
    high_reaches : true ≡ le_z t.z.low (span_of a k s t.x.high (y_for_least k t.y)).greatest
    high_stays : true ≡ le_z (span_of a k s t.x.high (y_for_least k t.y)).least t.z.high

  ends : (k : Kind) (t : Triple) → true ≡ reaches_into (span_at_low a k s t.x t.y) t.z → true ≡ reaches_into (span_at_high a k s t.x t.y) t.z → Ends k t
  ends k t el eh =
      let low = span_of a k s t.x.low (y_for_greatest k t.y) in
      let high = span_of a k s t.x.high (y_for_least k t.y) in
      let l = and_parts (le_z t.z.low low.greatest) (le_z low.least t.z.high) (sym el) in
      let h = and_parts (le_z t.z.low high.greatest) (le_z high.least t.z.high) (sym eh) in
      record { low_reaches = sym l.0; low_stays = sym l.1; high_reaches = sym h.0; high_stays = sym h.1 }

  all_of_x : (k : Kind) (t : Triple) → Proper t.x → SFits w32 t.x.low → SFits w32 t.x.high → Ends k t → Some t.x ≡ keeps_x a k s t
  unfolding passes
  all_of_x k t p l h n =
      whole t.x p _ _
      (at_end (reaches k s X (y_for_greatest k t.y) t.z) t.x l h n.low_reaches)
      (at_end (stays_in k s X (y_for_least k t.y) t.z) t.x l h n.high_stays)

  all_of_y : (k : Kind) (t : Triple) → Proper t.y → SFits w32 t.y.low → SFits w32 t.y.high → Ends k t → Some t.y ≡ keeps_y a k s t
  unfolding passes
  all_of_y Sum t p l h n =
      whole t.y p _ _ (at_end (reaches Sum s Y t.x.high t.z) t.y l h n.high_reaches) (at_end (stays_in Sum s Y t.x.low t.z) t.y l h n.low_stays)
  all_of_y Difference t p l h n =
      whole t.y p _ _ (at_end (stays_in Difference s Y t.x.low t.z) t.y l h n.low_stays) (at_end (reaches Difference s Y t.x.high t.z) t.y l h n.high_reaches)
  all_of_y Peak t p l h n =
      whole t.y p _ _ (at_end (reaches Peak s Y t.x.high t.z) t.y l h n.high_reaches) (at_end (stays_in Peak s Y t.x.low t.z) t.y l h n.low_stays)

  -- where z's range holds every result, both spans reach into it
  y_order : (k : Kind) (x : ℤ) (y : Range) → Proper y → (span_of a k s x (y_for_least k y)).least ≤ℤ (span_of a k s x (y_for_greatest k y)).least
  y_order Sum x y p = least_y a laws Sum s _ _ _ (nearest_mono a y.low y.high p)
  y_order Difference x y p = least_y a laws Difference s _ _ _ (nearest_mono a y.low y.high p)
  y_order Peak x y p = least_y a laws Peak s _ _ _ (nearest_mono a y.low y.high p)

  y_order_greatest : (k : Kind) (x : ℤ) (y : Range) → Proper y → (span_of a k s x (y_for_least k y)).greatest ≤ℤ (span_of a k s x (y_for_greatest k y)).greatest
  y_order_greatest Sum x y p = greatest_y a laws Sum s _ _ _ (nearest_mono a y.low y.high p)
  y_order_greatest Difference x y p = greatest_y a laws Difference s _ _ _ (nearest_mono a y.low y.high p)
  y_order_greatest Peak x y p = greatest_y a laws Peak s _ _ _ (nearest_mono a y.low y.high p)

  inside_ends : (k : Kind) (t : Triple) → Proper t.x → Proper t.y → t.z.low ≤ℤ (results a k s t.x t.y).low → (results a k s t.x t.y).high ≤ℤ t.z.high → Ends k t
  inside_ends k t px py lo hi =
      let low = span_at_low a k s t.x t.y in
      let high = span_at_high a k s t.x t.y in
      let wl : low.least ≤ℤ low.greatest = least_greatest s _ in
      let wh : high.least ≤ℤ high.greatest = least_greatest s _ in
      let yl = y_order k t.x.low t.y py in
      let yh = y_order_greatest k t.x.high t.y py in
      let xl : (results a k s t.x t.y).low ≤ℤ high.least = least_x a laws k s _ _ _ (nearest_mono a t.x.low t.x.high px) in
      let xh : low.greatest ≤ℤ (results a k s t.x t.y).high = greatest_x a laws k s _ _ _ (nearest_mono a t.x.low t.x.high px) in
      record {
        low_reaches = sym (true_le _ _ (le_then lo (le_then yl wl)));
        low_stays = sym (true_le _ _ (le_then wl (le_then xh hi)));
        high_reaches = sym (true_le _ _ (le_then lo (le_then xl wh)));
        high_stays = sym (true_le _ _ (le_then wh (le_then yh hi)));
      }

  -- what the code has in hand
  module _ (k : Kind) (t : Triple) (px : Proper t.x) (py : Proper t.y) (fx : SFits w32 t.x.low × SFits w32 t.x.high) (fy : SFits w32 t.y.low × SFits w32 t.y.high) (res : Range) (er : res ≡ results a k s t.x t.y) (r : Option Triple) (is : r ≡ all_three (Some t.x) (Some t.y) (unless_empty (meet t.z res))) where
    by_ends : Ends k t → r ≡ narrowed_readings a k s t
    by_ends n =
        is ∙ ap (λ (v : Option Range). all_three v (Some t.y) (unless_empty (meet t.z res))) (all_of_x k t px fx.0 fx.1 n)
        ∙ ap (λ (v : Option Range). all_three (keeps_x a k s t) v (unless_empty (meet t.z res))) (all_of_y k t py fy.0 fy.1 n)
        ∙ ap (λ (v : Range). all_three (keeps_x a k s t) (keeps_y a k s t) (unless_empty (meet t.z v))) er

    -- z's range holds every result
    pub all_by_results : true ≡ holds_all t.z res → r ≡ narrowed_readings a k s t
    all_by_results e =
        let both = and_parts (le_z t.z.low res.low) (le_z res.high t.z.high) (sym e) in
        let lo = subst (λ (v : Range). t.z.low ≤ℤ v.low) er (le_true _ _ both.0) in
        let hi = subst (λ (v : Range). v.high ≤ℤ t.z.high) er (le_true _ _ both.1) in
        by_ends (inside_ends k t px py lo hi)

    -- both spans reach into z's range
    pub all_by_spans : (low high : Span) → low ≡ span_at_low a k s t.x t.y → high ≡ span_at_high a k s t.x t.y → true ≡ reaches_into low t.z → true ≡ reaches_into high t.z → r ≡ narrowed_readings a k s t
    all_by_spans low high el eh tl th =
        by_ends (ends k t (tl ∙ ap (λ (v : Span). reaches_into v t.z) el) (th ∙ ap (λ (v : Span). reaches_into v t.z) eh))
