use Rattle.std.proofs.Common.{◌≡◌, Bool, true, false, ◌&&◌, ℤ, sym, refl, ◌∙◌, subst, arith}
use lib.Pointwise.{pointwise_decides}
use mathlib.Core.Bool.{beq}
use Rattle.std.proofs.lemmas.Bool.{and_parts, and_from}
use Rattle.std.proofs.lemmas.Int.{ints}
use Rattle.std.specs.Ordering.{int_eq}
use Rattle.catalogue.specs.declared.types.Range.{Range}
use Rattle.sheet.proofs.sheet.Look.shows_same.Goals as goal

same_number : (x y : ℤ) → int_eq x y ≡ true → x ≡ y
same_number x y h = grind (arith, ints)

number_same : (x : ℤ) → int_eq x x ≡ true
number_same x = grind (arith, ints)

abbrev ends_same : Range → Range → Bool
ends_same a b = int_eq a.low b.low && int_eq a.high b.high

same_range : (a b : Range) → int_eq a.low b.low ≡ true → int_eq a.high b.high ≡ true → a ≡ b
same_range a b l h = λ i. record { low = same_number a.low b.low l i; high = same_number a.high b.high h i }

decides : (a b : Range) → (ends_same a b ≡ true → a ≡ b) × (a ≡ b → ends_same a b ≡ true)
decides a b = (
  (λ h. let p = and_parts (int_eq a.low b.low) (int_eq a.high b.high) h in same_range a b p.0 p.1),
  (λ e. subst (λ c. ends_same a c ≡ true) e (and_from (int_eq a.low a.low) (int_eq a.high a.high) (number_same a.low) (number_same a.high))),
)

same_test : (a b : Bool) → beq a b ≡ true → a ≡ b
same_test true true h = refl
same_test false false h = refl
same_test true false h = absurd cc
same_test false true h = absurd cc

pub returns-then-is_settled : goal.returns-then-is_settled
returns-then-is_settled g c =
    let d = pointwise_decides decides c.args.self.now.sheet.now.table.ranges c.args.other.now.sheet.now.table.ranges in
    let settled = sym c.is_settled.ensures.value ∙ same_test _ _ c.if-is_settled.true ∙ c.is_settled-2.ensures.value in
    ((λ t. (settled, d.0 (sym c.eq.ensures ∙ t))), λ p. c.eq.ensures ∙ d.1 p.1)
