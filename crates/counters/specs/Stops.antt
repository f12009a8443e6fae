-- Operations that stop at an end: results move one way, modes have no effect, and patterns are read back.
use Rattle.std.specs.Prelude.{◌≡◌, ℕ, ◌^◌, ◌<◌, ◌≤◌, min, ℤ, pos, negsuc, ◌≤ℤ◌, Some, None, Option, nat_le}
use Rattle.std.proofs.Common.{sym, ap, subst, ◌∙◌, arith}
use Rattle.std.proofs.lemmas.Int.{ints, clamps}
use Rattle.std.proofs.lemmas.Bool.{cond_both, cond-true, le-leb, leb-true}
use Rattle.catalogue.specs.declared.types.Kind.{Kind}
use Rattle.catalogue.specs.declared.types.Kind.TheVariants.{Sum, Difference, Peak}
use Rattle.catalogue.specs.declared.types.Modes.{Modes}
use Rattle.catalogue.specs.declared.types.Span.{Span}
use Rattle.catalogue.specs.Modes.{least_of}
use Rattle.catalogue.specs.Operations.{ArithLaws, InOrder, falls_in_y, nearest_reading, span_of}
use Rattle.catalogue.specs.Meanings.{Laws}
use Rattle.catalogue.proofs.Sets.{least_alike, greatest_alike}
use Rattle.catalogue.proofs.Ranked.{ranked_laws}
use Rattle.counters.specs.Stopping.{stopped, stopping}
use Rattle.counters.specs.Counters.{read_to, write_to, counting}

in_x : (e : ℕ) (k : Kind) (x w y : ℤ) → x ≤ℤ w → stopped e k x y ≤ℤ stopped e k w y
in_x e Sum x w y h = omega (arith, ints, clamps)
in_x e Difference x w y h = omega (arith, ints, clamps)
in_x e Peak x w y h = omega (arith, ints, clamps)

in_y : (e : ℕ) (k : Kind) (x y w : ℤ) → y ≤ℤ w → InOrder (falls_in_y k) (stopped e k x y) (stopped e k x w)
in_y e Sum x y w h = omega (arith, ints, clamps)
in_y e Difference x y w h = omega (arith, ints, clamps)
in_y e Peak x y w h = omega (arith, ints, clamps)

pub stopping_laws : (e : ℕ) → e < 2 ^ 30 → ArithLaws (stopping e)
stopping_laws e h = record {
  fits = (record { sfits = omega arith }, record { sfits = omega arith });
  ends = omega (arith, ints);
  in_x = λ k m. in_x e k;
  in_y = λ k m. in_y e k;
}

-- ---- modes without effect
abbrev both : ℤ → ℤ → Span
both l h = record { least = l; greatest = h }

module _ (e : ℕ) (k : Kind) (s : Modes) (x y r : ℤ) (p : Span) where
  abbrev held : ℤ
  held = stopped e k (nearest_reading (stopping e) x) (nearest_reading (stopping e) y)

  pub span_alike : p.least ≡ r → p.greatest ≡ r → r ≡ held → p ≡ span_of (stopping e) k s x y
  span_alike l g h =
      ap (λ u. both u p.greatest) (l ∙ h ∙ sym (least_alike s held)) ∙ ap (both (least_of s (λ m. held))) (g ∙ h ∙ sym (greatest_alike s held))

-- ---- patterns
abbrev Within : ℕ → Option ℤ → Type 0
Within e None = Unit {0}
Within e (Some v) = (pos 0 ≤ℤ v) × (v ≤ℤ pos e)

read_within : (e p : ℕ) → Within e (read_to e p)
read_within e p = cond_both (nat_le p e) (Some (pos p)) None (Within e) (λ t. let h = leb-true p e t in (omega (arith, ints), omega (arith, ints))) (λ t. tt)

write_reads : (e : ℕ) (v : ℤ) → (pos 0 ≤ℤ v) × (v ≤ℤ pos e) → read_to e (write_to e v) ≡ Some v
write_reads e (pos n) h =
    let le : n ≤ e = omega (arith, ints, h.1) in
    let w : min n e ≡ n = omega arith in
    ap (read_to e) w ∙ cond-true (nat_le n e) (Some (pos n)) None (le-leb n e le)
write_reads e (negsuc n) h = absurd h.0.le

pub counting_laws : (e : ℕ) → e < 2 ^ 30 → Laws (counting e)
counting_laws e h = ranked_laws (stopping e) (read_to e) (write_to e) (stopping_laws e h) record {
  reads = λ p v q. subst (Within e) q (read_within e p);
  writes = write_reads e;
}
