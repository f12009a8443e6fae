-- The results of operations: the least and the greatest among the modes of a set, and that each is the rounding of the exact result.
use Rattle.std.proofs.Common.{◌≡◌, ℤ, [], ◌∷◌, sym, ap, ◌∙◌, subst, arith}
use mathlib.Core.Path.{fun_ext}
use Rattle.std.proofs.lemmas.Int.{ints, clamps}
use Rattle.std.specs.Int.{int_max}
use Rattle.std.specs.List.{fold}
use Rattle.catalogue.specs.declared.types.Kind.{Kind}
use Rattle.catalogue.specs.declared.types.Kind.TheVariants.{Sum, Difference, Peak}
use Rattle.catalogue.specs.declared.types.Mode.{Mode}
use Rattle.catalogue.specs.declared.types.Mode.TheVariants.{Up, Down, TowardZero}
use Rattle.catalogue.specs.declared.types.Modes.{Modes}
use Rattle.catalogue.specs.declared.types.Span.{Span}
use Rattle.catalogue.specs.Modes.{first_mode, has_mode, lesser_if, greater_if, least_of, greatest_of}
use Rattle.catalogue.specs.Operations.{least_result, greatest_result, nearest_reading}
use Rattle.catalogue.proofs.Sets.{least_alike, greatest_alike}
use Rattle.binary32.specs.declared.types.ExactSum.{ExactSum}
use Rattle.binary32.specs.Units.{value, Reading}
use Rattle.binary32.specs.Rounding.{Rounds}
use Rattle.binary32.specs.Computed.{rank_by, widened}
use Rattle.binary32.specs.Binary32.{result_of, exact_of, binary32}
use Rattle.binary32.specs.Signs.{exact}
use Rattle.binary32.specs.StandardLemmas.{rounds, reading_abs}

-- one mode's rank after another, as the definition takes them
module _ (e : ExactSum) (s : Modes) (p : Span) where
  pub each_least : p.least ≡ rank_by e (first_mode s) → (fold (widened e s) p (Up ∷ (Down ∷ (TowardZero ∷ [])))).least ≡ least_of s (rank_by e)
  unfolding least_of
  each_least h =
      ap (λ (v : ℤ). lesser_if (has_mode s TowardZero) (lesser_if (has_mode s Down) (lesser_if (has_mode s Up) v (rank_by e Up)) (rank_by e Down)) (rank_by e TowardZero)) h

  pub each_greatest : p.greatest ≡ rank_by e (first_mode s) → (fold (widened e s) p (Up ∷ (Down ∷ (TowardZero ∷ [])))).greatest ≡ greatest_of s (rank_by e)
  unfolding greatest_of
  each_greatest h =
      ap (λ (v : ℤ). greater_if (has_mode s TowardZero) (greater_if (has_mode s Down) (greater_if (has_mode s Up) v (rank_by e Up)) (rank_by e Down)) (rank_by e TowardZero)) h

module _ (k j : Kind) (s : Modes) (x y : ℤ) (f : Mode → ℤ) (is : k ≡ j) (h : (m : Mode) → f m ≡ result_of j m x y) where
  by : (m : Mode) → f m ≡ result_of k m x y
  by m = h m ∙ sym (ap (λ (i : Kind). result_of i m x y) is)

  pub least_is : least_of s f ≡ least_result binary32 k s x y
  least_is = ap (least_of s) (fun_ext by)

  pub greatest_is : greatest_of s f ≡ greatest_result binary32 k s x y
  greatest_is = ap (greatest_of s) (fun_ext by)

module _ (k : Kind) (s : Modes) (x y : ℤ) (is : k ≡ Peak) where
  pub peak_least : int_max x y ≡ least_result binary32 k s x y
  peak_least = sym (least_alike s (int_max x y)) ∙ ap (λ (i : Kind). least_result binary32 i s x y) (sym is)

  pub peak_greatest : int_max x y ≡ greatest_result binary32 k s x y
  peak_greatest = sym (greatest_alike s (int_max x y)) ∙ ap (λ (i : Kind). greatest_result binary32 i s x y) (sym is)

pub nearest_reads : (v : ℤ) → Reading (nearest_reading binary32 v)
nearest_reads v = (omega (arith, ints, clamps), omega (arith, ints, clamps))

-- a peak is a reading, and a reading's own value is kept
pub result_rounds : (k : Kind) (m : Mode) (x y : ℤ) → Reading x → Reading y → Rounds m (exact_of k x y) (result_of k m x y)
result_rounds Sum m x y p q = rounds m _
result_rounds Difference m x y p q = rounds m _
result_rounds Peak m x y p q =
    let r : Reading (int_max x y) = (omega (arith, ints, clamps, p.0, q.0), omega (arith, ints, clamps, p.1, q.1)) in
    subst (Rounds m (value (int_max x y))) (exact m (int_max x y) (reading_abs (int_max x y) r)) (rounds m _)
