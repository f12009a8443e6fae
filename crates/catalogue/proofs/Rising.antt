-- A question that rises keeps passing as the rank grows, from the laws of an arithmetic.
use Rattle.std.proofs.Common.{◌≡◌, ℕ, ◌≤◌, Bool, true, false, ℤ, pos, negsuc, ◌≤ℤ◌, refl, arith, w32, SFits}
use lib.Signed.{le_z}
use Rattle.std.proofs.lemmas.Int.{ints, clamps}
use Rattle.std.proofs.lemmas.Bool.{false≢true, true≢false}
use Rattle.catalogue.specs.declared.types.Kind.{Kind}
use Rattle.catalogue.specs.declared.types.Kind.TheVariants.{Sum, Difference, Peak}
use Rattle.catalogue.specs.declared.types.Modes.{Modes}
use Rattle.catalogue.specs.declared.types.Operand.{Operand}
use Rattle.catalogue.specs.declared.types.Operand.TheVariants.{X, Y}
use Rattle.catalogue.specs.declared.types.Asks.{Asks}
use Rattle.catalogue.specs.declared.types.Asks.TheVariants.{AtLeast, AtMost}
use Rattle.catalogue.specs.declared.types.Question.{Question}
use Rattle.catalogue.specs.declared.types.Span.{Span}
use Rattle.catalogue.specs.First.{Stays}
use Rattle.catalogue.specs.Operations.{Arith, ArithLaws, Reading, least_result, greatest_result, nearest_reading, span_of, falls_in_y, InOrder}
use Rattle.catalogue.specs.Search.{x_asked, y_asked, meets, passes, falls_in, rising, rises, moved}
use Rattle.catalogue.proofs.Sets.{least_mono, greatest_mono}

pub le_true : (a b : ℤ) → le_z a b ≡ true → a ≤ℤ b
le_true a b h = grind (arith, ints)

pub true_le : (a b : ℤ) → a ≤ℤ b → le_z a b ≡ true
true_le a b h = grind (arith, ints)

further : (b u v : ℤ) → u ≤ℤ v → le_z b u ≡ true → le_z b v ≡ true
further b u v h e = let k = le_true b u e in true_le b v (omega (arith, ints))

nearer : (b u v : ℤ) → u ≤ℤ v → le_z v b ≡ true → le_z u b ≡ true
nearer b u v h e = let k = le_true v b e in true_le u b (omega (arith, ints))

-- a rank between two that fit 32 bits fits them
pub fits_between : (v l h : ℤ) → SFits w32 l → SFits w32 h → l ≤ℤ v → v ≤ℤ h → SFits w32 v
fits_between (pos n) l (pos m) p q r s = record { sfits = omega (arith, ints, q.sfits) }
fits_between (pos n) l (negsuc m) p q r s = absurd s.le
fits_between (negsuc n) (pos m) h p q r s = absurd r.le
fits_between (negsuc n) (negsuc m) h p q r s = record { sfits = omega (arith, ints, p.sfits) }

pub fits_on_the_way : (b : Bool) (f : ℤ) (n k : ℕ) → k ≤ n → SFits w32 f → SFits w32 (moved b f n) → SFits w32 (moved b f k)
fits_on_the_way true f n k h r t = fits_between (moved true f k) f (moved true f n) r t (omega (arith, ints)) (omega (arith, ints))
fits_on_the_way false f n k h r t = fits_between (moved false f k) (moved false f n) f t r (omega (arith, ints)) (omega (arith, ints))

module _ (a : Arith) where
  -- a reading is nearest to itself
  pub nearest_self : (v : ℤ) → Reading a v → nearest_reading a v ≡ v
  nearest_self v h = omega (arith, ints, clamps, h.0, h.1)

  pub nearest_mono : (v w : ℤ) → v ≤ℤ w → nearest_reading a v ≤ℤ nearest_reading a w
  nearest_mono v w h = omega (arith, ints, clamps)

module _ (a : Arith) (laws : ArithLaws a) where
  pub reading_fits : (v : ℤ) → Reading a v → SFits w32 v
  reading_fits v r = fits_between v a.least a.greatest laws.fits.0 laws.fits.1 r.0 r.1

  pub least_x : (k : Kind) (s : Modes) (x w y : ℤ) → x ≤ℤ w → least_result a k s x y ≤ℤ least_result a k s w y
  least_x k s x w y h = least_mono s _ _ (λ m. laws.in_x k m x w y h)

  pub greatest_x : (k : Kind) (s : Modes) (x w y : ℤ) → x ≤ℤ w → greatest_result a k s x y ≤ℤ greatest_result a k s w y
  greatest_x k s x w y h = greatest_mono s _ _ (λ m. laws.in_x k m x w y h)

  pub least_y : (k : Kind) (s : Modes) (x y w : ℤ) → y ≤ℤ w → InOrder (falls_in_y k) (least_result a k s x y) (least_result a k s x w)
  least_y Sum s x y w h = least_mono s _ _ (λ m. laws.in_y Sum m x y w h)
  least_y Difference s x y w h = least_mono s _ _ (λ m. laws.in_y Difference m x y w h)
  least_y Peak s x y w h = least_mono s _ _ (λ m. laws.in_y Peak m x y w h)

  pub greatest_y : (k : Kind) (s : Modes) (x y w : ℤ) → y ≤ℤ w → InOrder (falls_in_y k) (greatest_result a k s x y) (greatest_result a k s x w)
  greatest_y Sum s x y w h = greatest_mono s _ _ (λ m. laws.in_y Sum m x y w h)
  greatest_y Difference s x y w h = greatest_mono s _ _ (λ m. laws.in_y Difference m x y w h)
  greatest_y Peak s x y w h = greatest_mono s _ _ (λ m. laws.in_y Peak m x y w h)

  module _ (s : Modes) (o b : ℤ) where
    abbrev span : Kind → Operand → ℤ → Span
    span k p v = span_of a k s (x_asked p v o) (y_asked p v o)

    up : (c : Asks) (p : Operand) (k : Kind) (v w : ℤ) → rising c (falls_in p k) ≡ true → v ≤ℤ w → meets c b (span k p v) ≡ true → meets c b (span k p w) ≡ true
    up AtLeast X k v w r h e = further b _ _ (greatest_x k s _ _ _ (nearest_mono a v w h)) e
    up AtMost X k v w r h e = absurd (false≢true r)
    up AtLeast Y Sum v w r h e = further b _ _ (greatest_y Sum s _ _ _ (nearest_mono a v w h)) e
    up AtLeast Y Difference v w r h e = absurd (false≢true r)
    up AtLeast Y Peak v w r h e = further b _ _ (greatest_y Peak s _ _ _ (nearest_mono a v w h)) e
    up AtMost Y Sum v w r h e = absurd (false≢true r)
    up AtMost Y Difference v w r h e = nearer b _ _ (least_y Difference s _ _ _ (nearest_mono a v w h)) e
    up AtMost Y Peak v w r h e = absurd (false≢true r)

    down : (c : Asks) (p : Operand) (k : Kind) (v w : ℤ) → rising c (falls_in p k) ≡ false → v ≤ℤ w → meets c b (span k p w) ≡ true → meets c b (span k p v) ≡ true
    down AtLeast X k v w r h e = absurd (true≢false r)
    down AtMost X k v w r h e = nearer b _ _ (least_x k s _ _ _ (nearest_mono a v w h)) e
    down AtLeast Y Sum v w r h e = absurd (true≢false r)
    down AtLeast Y Difference v w r h e = further b _ _ (greatest_y Difference s _ _ _ (nearest_mono a v w h)) e
    down AtLeast Y Peak v w r h e = absurd (true≢false r)
    down AtMost Y Sum v w r h e = nearer b _ _ (least_y Sum s _ _ _ (nearest_mono a v w h)) e
    down AtMost Y Difference v w r h e = absurd (true≢false r)
    down AtMost Y Peak v w r h e = nearer b _ _ (least_y Peak s _ _ _ (nearest_mono a v w h)) e

  passes_up : (q : Question) (v w : ℤ) → rises q ≡ true → v ≤ℤ w → passes a q v ≡ true → passes a q w ≡ true
  unfolding passes
  passes_up q v w = up q.operation.modes q.other q.bound q.asks q.operand q.operation.kind v w

  passes_down : (q : Question) (v w : ℤ) → rises q ≡ false → v ≤ℤ w → passes a q w ≡ true → passes a q v ≡ true
  unfolding passes
  passes_down q v w = down q.operation.modes q.other q.bound q.asks q.operand q.operation.kind v w

  pub on : (q : Question) (f : ℤ) (b : Bool) → rises q ≡ b → (j k : ℕ) → j ≤ k → passes a q (moved b f j) ≡ true → passes a q (moved b f k) ≡ true
  on q f true r j k h = passes_up q _ _ r (omega (arith, ints))
  on q f false r j k h = passes_down q _ _ r (omega (arith, ints))

  pub stays : (q : Question) (f : ℤ) (n : ℕ) → Stays (λ k. passes a q (moved (rises q) f k)) n
  stays q f n j k le _ = on q f (rises q) refl j k le
