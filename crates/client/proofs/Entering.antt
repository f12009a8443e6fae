-- An enter that is refused hands the same line back and leaves the sheet as it was, so that a second place is asked as the first was.
use Rattle.std.proofs.Common.{◌≡◌, ℕ, Bool, true, false, cond, ◌||◌, Ok, Err, Result, refl, ap, ◌∙◌}
use Rattle.catalogue.specs.Meanings.{Meaning}
use Rattle.sheet.specs.declared.lines.CheckedLine.{CheckedLine}
use Rattle.sheet.specs.declared.table.Table.{Table}
use Rattle.sheet.specs.Calls.{enter_asked, enter_table}
use Rattle.sheet.specs.Numbers.{no_place}
use Rattle.sheet.specs.Rules.{stands, table_after_enter}
use Rattle.client.specs.Clients.{either_asked, either_table, otherwise}

module _ (m : Meaning) (n : ℕ) (l : CheckedLine) (t : Table) (e : ℕ × CheckedLine) (h : Err e ≡ enter_asked n l t) where
  refused : (e.1 ≡ l) × (enter_table m n l t ≡ t)
  refused = by (no_place n) (stands t n) h
    where
      by : (a b : Bool) → Err e ≡ cond {A = Result (Unit {0}) (ℕ × CheckedLine)} a (Err (7, l)) (cond {A = Result (Unit {0}) (ℕ × CheckedLine)} b (Err (6, l)) (Ok tt)) → (e.1 ≡ l) × (cond (a || b) t (table_after_enter m n l.line t) ≡ t)
      by true b h = let p : ℕ × CheckedLine = (7, l) in let g : e ≡ p = cc in (ap (λ p. p.1) g, refl)
      by false true h = let p : ℕ × CheckedLine = (6, l) in let g : e ≡ p = cc in (ap (λ p. p.1) g, refl)
      by false false h = absurd cc

  pub second_asked : (k : ℕ) → enter_asked k e.1 (enter_table m n l t) ≡ either_asked n k l t
  second_asked k = ap (λ c. enter_asked k c (enter_table m n l t)) refused.0 ∙ ap (enter_asked k l) refused.1 ∙ ap (λ a. otherwise a (Ok tt) (enter_asked k l t)) h

  pub second_table : (k : ℕ) → enter_table m k e.1 (enter_table m n l t) ≡ either_table m n k l t
  second_table k = ap (λ c. enter_table m k c (enter_table m n l t)) refused.0 ∙ ap (enter_table m k l) refused.1 ∙ ap (λ a. otherwise a (enter_table m n l t) (enter_table m k l t)) h
