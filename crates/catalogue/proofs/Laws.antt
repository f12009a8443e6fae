-- The three laws of narrowing, from its words and the order of results; and that the words allow one answer only.
use Rattle.std.proofs.Common.{◌≡◌, true, ℤ, ◌≤ℤ◌, Some, None, Option, sym, refl, ap, ◌∙◌, subst, arith}
use lib.Signed.{≤ℤ_refl}
use Rattle.std.proofs.lemmas.Int.{ints, clamps}
use Rattle.catalogue.specs.declared.types.Kind.{Kind}
use Rattle.catalogue.specs.declared.types.Kind.TheVariants.{Sum, Difference, Peak}
use Rattle.catalogue.specs.declared.types.Modes.{Modes}
use Rattle.catalogue.specs.declared.types.Range.{Range}
use Rattle.catalogue.specs.declared.types.Triple.{Triple}
use Rattle.catalogue.specs.Ranges.{Holds, Holds3, HoldsO, Within, Within3, WithinO, meet}
use Rattle.catalogue.specs.Operations.{Arith, ArithLaws, Reading, readings, least_result, greatest_result, allowed}
use Rattle.catalogue.specs.Narrowing.{y_for_least, y_for_greatest, cut_to_readings, KeepsX, KeepsY, KeepsZ, Exactly, NarrowsReadings, Narrows, Narrowing}
use Rattle.catalogue.specs.Search.{narrowed}
use Rattle.catalogue.proofs.Sets.{le_then, least_le, greatest_ge}
use Rattle.catalogue.proofs.Rising.{least_x, greatest_x, least_y, greatest_y}
use Rattle.catalogue.proofs.Words.{narrowed_is}
use Rattle.catalogue.proofs.Allowed.{AllowedBy, allowed_by}

-- the low and the high rank of what is kept are kept
inside_of : (P : ℤ → Type 0) (r w : Range) → Exactly P r → ((v : ℤ) → P v → Holds w v) → Within r w
inside_of P r w e f = ((f r.low (e.only r.low (≤ℤ_refl _, e.some))).0, (f r.high (e.only r.high (e.some, ≤ℤ_refl _))).1)

cut_holds : (a : Arith) (r : Range) (v : ℤ) → Holds (meet (readings a) r) v → Holds r v
cut_holds a r v h = (omega (arith, ints, clamps, h.0), omega (arith, ints, clamps, h.1))

holds_cut : (a : Arith) (r : Range) (v : ℤ) → Reading a v → Holds r v → Holds (meet (readings a) r) v
holds_cut a r v p h = (omega (arith, ints, clamps, h.0, p.0), omega (arith, ints, clamps, h.1, p.1))

cut_within : (a : Arith) (r w : Range) → Within r w → Within (meet (readings a) r) (meet (readings a) w)
cut_within a r w h = (omega (arith, ints, clamps, h.0), omega (arith, ints, clamps, h.1))

within_holds : (r w : Range) (v : ℤ) → Within r w → Holds r v → Holds w v
within_holds r w v h k = (le_then h.0 k.0, le_then k.1 h.1)

module _ (a : Arith) (laws : ArithLaws a) where
  y_greatest_in : (k : Kind) (s : Modes) (x v : ℤ) (y : Range) → Holds y v → greatest_result a k s x v ≤ℤ greatest_result a k s x (y_for_greatest k y)
  y_greatest_in Sum s x v y h = greatest_y a laws Sum s x v y.high h.1
  y_greatest_in Difference s x v y h = greatest_y a laws Difference s x y.low v h.0
  y_greatest_in Peak s x v y h = greatest_y a laws Peak s x v y.high h.1

  y_least_in : (k : Kind) (s : Modes) (x v : ℤ) (y : Range) → Holds y v → least_result a k s x (y_for_least k y) ≤ℤ least_result a k s x v
  y_least_in Sum s x v y h = least_y a laws Sum s x y.low v h.0
  y_least_in Difference s x v y h = least_y a laws Difference s x v y.high h.1
  y_least_in Peak s x v y h = least_y a laws Peak s x y.low v h.0

  y_greatest_wide : (k : Kind) (s : Modes) (x : ℤ) (y w : Range) → Within y w → greatest_result a k s x (y_for_greatest k y) ≤ℤ greatest_result a k s x (y_for_greatest k w)
  y_greatest_wide Sum s x y w h = greatest_y a laws Sum s x y.high w.high h.1
  y_greatest_wide Difference s x y w h = greatest_y a laws Difference s x w.low y.low h.0
  y_greatest_wide Peak s x y w h = greatest_y a laws Peak s x y.high w.high h.1

  y_least_wide : (k : Kind) (s : Modes) (x : ℤ) (y w : Range) → Within y w → least_result a k s x (y_for_least k w) ≤ℤ least_result a k s x (y_for_least k y)
  y_least_wide Sum s x y w h = least_y a laws Sum s x w.low y.low h.0
  y_least_wide Difference s x y w h = least_y a laws Difference s x y.high w.high h.1
  y_least_wide Peak s x y w h = least_y a laws Peak s x w.low y.low h.0

  module _ (k : Kind) (s : Modes) where
    inside : (t : Triple) (r : Option Triple) → Narrows a k s t r → WithinO r (Some t)
    inside t None h = tt
    inside t (Some r) h = (
      inside_of _ r.x t.x h.0 (λ v p. cut_holds a t.x v p.0),
      inside_of _ r.y t.y h.1 (λ v p. cut_holds a t.y v p.0),
      inside_of _ r.z t.z h.2 (λ v p. cut_holds a t.z v p.0),
    )

    -- larger ranges keep more
    wider_x : (c d : Triple) → Within3 c d → (v : ℤ) → KeepsX a k s c v → KeepsX a k s d v
    wider_x c d w v h =
        let f = y_greatest_wide k s v c.y d.y w.1 in
        let n = y_least_wide k s v c.y d.y w.1 in
        (within_holds c.x d.x v w.0 h.0, omega (arith, ints, w.2.0, h.1), omega (arith, ints, w.2.1, h.2))

    wider_y : (c d : Triple) → Within3 c d → (v : ℤ) → KeepsY a k s c v → KeepsY a k s d v
    wider_y c d w v h =
        let f = greatest_x a laws k s c.x.high d.x.high v w.0.1 in
        let n = least_x a laws k s d.x.low c.x.low v w.0.0 in
        (within_holds c.y d.y v w.1 h.0, omega (arith, ints, w.2.0, h.1), omega (arith, ints, w.2.1, h.2))

    wider_z : (c d : Triple) → Within3 c d → (v : ℤ) → KeepsZ a k s c v → KeepsZ a k s d v
    wider_z c d w v h =
        let f = y_greatest_wide k s c.x.high c.y d.y w.1 in
        let n = y_least_wide k s c.x.low c.y d.y w.1 in
        let f2 = greatest_x a laws k s c.x.high d.x.high (y_for_greatest k d.y) w.0.1 in
        let n2 = least_x a laws k s d.x.low c.x.low (y_for_least k d.y) w.0.0 in
        (within_holds c.z d.z v w.2 h.0, omega (arith, ints, h.1), omega (arith, ints, h.2))

    steady_readings : (c d : Triple) (r u : Option Triple) → Within3 c d → NarrowsReadings a k s c r → NarrowsReadings a k s d u → WithinO r u
    steady_readings c d None u w p q = tt
    steady_readings c d (Some r) None w p q =
        q r.x.low r.y.low r.z.low
        (wider_x c d w _ (p.0.only _ (≤ℤ_refl _, p.0.some)))
        (wider_y c d w _ (p.1.only _ (≤ℤ_refl _, p.1.some)))
        (wider_z c d w _ (p.2.only _ (≤ℤ_refl _, p.2.some)))
    steady_readings c d (Some r) (Some u) w p q = (
      inside_of _ r.x u.x p.0 (λ v h. q.0.all v (wider_x c d w v h)),
      inside_of _ r.y u.y p.1 (λ v h. q.1.all v (wider_y c d w v h)),
      inside_of _ r.z u.z p.2 (λ v h. q.2.all v (wider_z c d w v h)),
    )

    -- an allowed triple is kept by each rule
    module _ (t : Triple) (x y z : ℤ) (w : AllowedBy a k s x y z) (h : Holds3 t x y z) where
      abbrev c : Triple
      c = cut_to_readings a t

      hx : Holds c.x x
      hx = holds_cut a t.x x w.x_reads h.0

      hy : Holds c.y y
      hy = holds_cut a t.y y w.y_reads h.1

      hz : Holds c.z z
      hz = holds_cut a t.z z w.z_reads h.2

      under : least_result a k s x y ≤ℤ z
      under = subst (λ v. least_result a k s x y ≤ℤ v) (sym w.is) (least_le s (λ m. a.result k m x y) w.mode w.among)

      over : z ≤ℤ greatest_result a k s x y
      over = subst (λ v. v ≤ℤ greatest_result a k s x y) (sym w.is) (greatest_ge s (λ m. a.result k m x y) w.mode w.among)

      keeps_x : KeepsX a k s c x
      keeps_x = (hx, le_then hz.0 (le_then over (y_greatest_in k s x y c.y hy)), le_then (le_then (y_least_in k s x y c.y hy) under) hz.1)

      keeps_y : KeepsY a k s c y
      keeps_y = (hy, le_then hz.0 (le_then over (greatest_x a laws k s x c.x.high y hx.1)), le_then (le_then (least_x a laws k s c.x.low x y hx.0) under) hz.1)

      keeps_z : KeepsZ a k s c z
      keeps_z = (
        hz,
        le_then (le_then (least_x a laws k s c.x.low x (y_for_least k c.y) hx.0) (y_least_in k s x y c.y hy)) under,
        le_then over (le_then (y_greatest_in k s x y c.y hy) (greatest_x a laws k s x c.x.high (y_for_greatest k c.y) hx.1)),
      )

      kept : (r : Option Triple) → Narrows a k s t r → HoldsO r x y z
      kept None n = n x y z keeps_x keeps_y keeps_z
      kept (Some r) n = (n.0.all x keeps_x, n.1.all y keeps_y, n.2.all z keeps_z)

  pub narrowed_inside : (k : Kind) (s : Modes) (t : Triple) → WithinO (narrowed a k s t) (Some t)
  narrowed_inside k s t = inside k s t (narrowed a k s t) (narrowed_is a laws k s t)

  pub narrowed_kept : (k : Kind) (s : Modes) (t : Triple) (x y z : ℤ) → allowed a k s x y z ≡ true → Holds3 t x y z → HoldsO (narrowed a k s t) x y z
  narrowed_kept k s t x y z w h = kept k s t x y z (allowed_by a k s x y z w) h (narrowed a k s t) (narrowed_is a laws k s t)

  pub narrowed_steady : (k : Kind) (s : Modes) (t u : Triple) → Within3 t u → WithinO (narrowed a k s t) (narrowed a k s u)
  narrowed_steady k s t u w = steady_readings k s (cut_to_readings a t) (cut_to_readings a u) (narrowed a k s t) (narrowed a k s u)
      (cut_within a t.x u.x w.0, cut_within a t.y u.y w.1, cut_within a t.z u.z w.2) (narrowed_is a laws k s t) (narrowed_is a laws k s u)

-- ---- the words allow one answer only
abbrev ends : ℤ → ℤ → Range
ends l h = record { low = l; high = h }

pub range_same : (r u : Range) → Within r u → Within u r → r ≡ u
range_same r u p q =
    let l : r.low ≡ u.low = omega (arith, ints, p.0, q.0) in
    let h : r.high ≡ u.high = omega (arith, ints, p.1, q.1) in
    ap (λ v. ends v r.high) l ∙ ap (ends u.low) h

abbrev three : Range → Range → Range → Triple
three x y z = record { x = x; y = y; z = z }

triple_same : (r u : Triple) → r.x ≡ u.x → r.y ≡ u.y → r.z ≡ u.z → r ≡ u
triple_same r u p q w = ap (λ v. three v r.y r.z) p ∙ ap (λ v. three u.x v r.z) q ∙ ap (three u.x u.y) w

both_within : (r u : Option Triple) → WithinO r u → WithinO u r → r ≡ u
both_within None None p q = refl
both_within None (Some u) p q = absurd q
both_within (Some r) None p q = absurd p
both_within (Some r) (Some u) p q = ap Some (triple_same r u (range_same _ _ p.0 q.0) (range_same _ _ p.1 q.1) (range_same _ _ p.2 q.2))

narrows_one : (a : Arith) → ArithLaws a → (k : Kind) (s : Modes) (t : Triple) (r u : Option Triple) → Narrows a k s t r → Narrows a k s t u → r ≡ u
narrows_one a laws k s t r u p q =
    let c = cut_to_readings a t in
    let same : Within3 c c = ((≤ℤ_refl _, ≤ℤ_refl _), (≤ℤ_refl _, ≤ℤ_refl _), (≤ℤ_refl _, ≤ℤ_refl _)) in
    both_within r u (steady_readings a laws k s c c r u same p q) (steady_readings a laws k s c c u r same q p)

-- what a narrowing promises in words
pub narrowing : (a : Arith) → ArithLaws a → (k : Kind) (s : Modes) (t : Triple) (r : Option Triple) → r ≡ narrowed a k s t → Narrowing a k s t r
narrowing a laws k s t r e =
    let is : Narrows a k s t r = subst (Narrows a k s t) (sym e) (narrowed_is a laws k s t) in
    record { keeps = is; sole = λ u h. narrows_one a laws k s t u r h is }
