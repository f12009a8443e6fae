-- An allowed triple, taken apart: readings, and a mode of the set whose result is z.
use Rattle.std.proofs.Common.{◌≡◌, Bool, true, false, ◌&&◌, ◌||◌, ℤ, ⊎_elim, sym, ap, ◌∙◌, refl, FitsSigned, of_z, to_z, w32, arith}
use Rattle.std.specs.Prelude.{◌==◌}
use lib.Signed.{le_z}
use Rattle.std.proofs.lemmas.Int.{ints, to_z-of_z}
use Rattle.std.proofs.lemmas.Bool.{eqb-true, eq-eqb, and_parts, and_from, or_cases, or_left, or_right}
use Rattle.catalogue.specs.declared.types.Kind.{Kind}
use Rattle.catalogue.specs.declared.types.Mode.{Mode}
use Rattle.catalogue.specs.declared.types.Mode.TheVariants.{Nearest, Up, Down, TowardZero}
use Rattle.catalogue.specs.declared.types.Modes.{Modes}
use Rattle.catalogue.specs.declared.types.Range.{Range}
use Rattle.catalogue.specs.Modes.{has_mode, some_mode}
use Rattle.catalogue.specs.Ranges.{Holds, holds}
use Rattle.catalogue.specs.Operations.{Arith, Reading, readings, equal, allowed}
use Rattle.catalogue.proofs.Rising.{le_true, true_le}

pub equal_true : (v w : ℤ) → v ≡ w → equal v w ≡ true
equal_true v w e = and_from (le_z v w) (le_z w v) (true_le v w (omega (arith, ints))) (true_le w v (omega (arith, ints)))

pub true_equal : (v w : ℤ) → equal v w ≡ true → v ≡ w
true_equal v w e = let h = and_parts (le_z v w) (le_z w v) e in let p = le_true v w h.0 in let q = le_true w v h.1 in omega (arith, ints)

-- two numbers are equal exactly if they are so as words of 32 bits
pub equal_words : (v w : ℤ) → FitsSigned w32 v → FitsSigned w32 w → (of_z w32 v == of_z w32 w) ≡ equal v w
equal_words v w fv fw = same _ _
    (λ e. equal_true v w (sym (to_z-of_z w32 v fv) ∙ ap (to_z w32) (eqb-true _ _ e) ∙ to_z-of_z w32 w fw))
    (λ e. eq-eqb _ _ (ap (of_z w32) (true_equal v w e)))
  where
    same : (a b : Bool) → (a ≡ true → b ≡ true) → (b ≡ true → a ≡ true) → a ≡ b
    same true true f g = refl
    same true false f g = sym (f refl)
    same false true f g = g refl
    same false false f g = refl

pub holds_true : (r : Range) (v : ℤ) → holds r v ≡ true → Holds r v
holds_true r v e = let h = and_parts (le_z r.low v) (le_z v r.high) e in (le_true _ _ h.0, le_true _ _ h.1)

pub true_holds : (r : Range) (v : ℤ) → Holds r v → holds r v ≡ true
true_holds r v h = and_from (le_z r.low v) (le_z v r.high) (true_le _ _ h.0) (true_le _ _ h.1)

-- some mode, by name
module _ (s : Modes) (p : Mode → Bool) where
  abbrev By : Mode → Bool
  By m = has_mode s m && p m

  pub mode_of : some_mode s p ≡ true → (m : Mode) × (has_mode s m ≡ true) × (p m ≡ true)
  mode_of e =
      let here : (m : Mode) → By m ≡ true → (n : Mode) × (has_mode s n ≡ true) × (p n ≡ true) = λ m h. let q = and_parts (has_mode s m) (p m) h in (m, q.0, q.1) in
      ⊎_elim (here Nearest) (λ f. ⊎_elim (here Up) (λ g. ⊎_elim (here Down) (here TowardZero) (or_cases (By Down) (By TowardZero) g))
      (or_cases (By Up) (By Down || By TowardZero) f)) (or_cases (By Nearest) (By Up || (By Down || By TowardZero)) e)

  pub mode_in : (m : Mode) → has_mode s m ≡ true → p m ≡ true → some_mode s p ≡ true
  mode_in Nearest h e = or_left (By Nearest) _ (and_from (has_mode s Nearest) (p Nearest) h e)
  mode_in Up h e = or_right (By Nearest) _ (or_left (By Up) _ (and_from (has_mode s Up) (p Up) h e))
  mode_in Down h e = or_right (By Nearest) _ (or_right (By Up) _ (or_left (By Down) _ (and_from (has_mode s Down) (p Down) h e)))
  mode_in TowardZero h e = or_right (By Nearest) _ (or_right (By Up) _ (or_right (By Down) _ (and_from (has_mode s TowardZero) (p TowardZero) h e)))

pub record AllowedBy (a : Arith) (k : Kind) (s : Modes) (x y z : ℤ) : Type 0 where
  pub x_reads : Reading a x
  pub y_reads : Reading a y
  pub z_reads : Reading a z
  pub mode : Mode
  pub among : has_mode s mode ≡ true
  pub is : z ≡ a.result k mode x y

module _ (a : Arith) (k : Kind) (s : Modes) (x y z : ℤ) where
  abbrev r : Range
  r = readings a

  abbrev met : Mode → Bool
  met m = equal z (a.result k m x y)

  pub allowed_by : allowed a k s x y z ≡ true → AllowedBy a k s x y z
  allowed_by e =
      let p = and_parts (holds r x && (holds r y && holds r z)) (some_mode s met) e in
      let q = and_parts (holds r x) (holds r y && holds r z) p.0 in
      let w = and_parts (holds r y) (holds r z) q.1 in
      let m = mode_of s met p.1 in
      record { x_reads = holds_true r x q.0; y_reads = holds_true r y w.0; z_reads = holds_true r z w.1; mode = m.0; among = m.1; is = true_equal z (a.result k m.0 x y) m.2 }

  pub by_allowed : AllowedBy a k s x y z → allowed a k s x y z ≡ true
  by_allowed b = and_from (holds r x && (holds r y && holds r z)) (some_mode s met)
      (and_from (holds r x) (holds r y && holds r z) (true_holds r x b.x_reads) (and_from (holds r y) (holds r z) (true_holds r y b.y_reads) (true_holds r z b.z_reads)))
      (mode_in s met b.mode b.among (equal_true z (a.result k b.mode x y) b.is))
