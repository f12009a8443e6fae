-- Answers, line after line: what the loop over a script has in hand.
use Rattle.std.proofs.Common.{◌≡◌, ℕ, List, [], ◌∷◌, ◌++◌, Some, None, Ok, Err, Option, Result, sym, refl, ap, ◌∙◌, subst, append_assoc}
use Rattle.std.proofs.lemmas.Bool.{cond-true}
use Rattle.catalogue.specs.Meanings.{Meaning, Laws}
use Rattle.commands.specs.declared.Command.{Command}
use Rattle.commands.specs.declared.Command.TheVariants.{Limit, Enter, Strike, Settle, Look, Partner}
use Rattle.sheet.specs.declared.lines.Line.{Line}
use Rattle.sheet.specs.Calls.{drawn_table, line_table}
use Rattle.sheet.specs.Lines.{checked_line}
use Rattle.promise.specs.Histories.{Call, after, passes_check}
use Rattle.promise.specs.Promise.{ShowsAfter}
use Rattle.promise.proofs.Promised.{promise_kept}
use Rattle.promise.proofs.Passing.{Passed, checked_passed}
use Rattle.answers.specs.Texts.{line_of}
use Rattle.commands.specs.Commands.{command_of}
use Rattle.sheet.specs.declared.table.Table.{Table}
use Rattle.sheet.specs.Rules.{new_table}
use Rattle.session.specs.Sessions.{Leads, Told, answers, calls_of, calls_of_all, entering, replied, table_after, table_after_all}

-- ---- histories: a command leaves what its call leaves

entered_after : (m : Meaning) (n : ℕ) (h : List Call) (q : Result Line ℕ) → Passed q → drawn_table m n q (after m h) ≡ after m (entering n q ++ h)
entered_after m n h (Err e) p = refl
entered_after m n h (Ok l) p = sym (cond-true (passes_check l) (line_table m n l (after m h)) (after m h) p)

command_after : (m : Meaning) (c : Option Command) (h : List Call) → table_after m c (after m h) ≡ after m (calls_of c ++ h)
command_after m None h = refl
command_after m (Some (Limit r low high)) h = refl
command_after m (Some (Enter n d)) h = entered_after m n h (checked_line d) (checked_passed d)
command_after m (Some (Strike n)) h = refl
command_after m (Some (Settle b)) h = refl
command_after m (Some (Look r)) h = refl
command_after m (Some (Partner n x z)) h = refl

pub leads_on : (m : Meaning) → Laws m → (c : Option Command) (h : List Call) (t u : Table) → u ≡ table_after m c t → t ≡ after m h → Leads m (calls_of c ++ h) u
leads_on m laws c h t u e f =
    let here : u ≡ after m (calls_of c ++ h) = e ∙ ap (table_after m c) f ∙ command_after m c h in
    record { is = here; shows = subst (ShowsAfter m (calls_of c ++ h)) (sym here) ((promise_kept m laws).shows (calls_of c ++ h)) }

-- ---- a whole script
told_from : (m : Meaning) → Laws m → (ls : List (List ℕ)) (h : List Call) (t : Table) → t ≡ after m h → Leads m (calls_of_all ls h) (table_after_all m ls t)
told_from m laws [] h t e = record { is = e; shows = subst (ShowsAfter m h) (sym e) ((promise_kept m laws).shows h) }
told_from m laws (l ∷ ls) h t e = told_from m laws ls (calls_of (command_of l) ++ h) (table_after m (command_of l) t) (leads_on m laws (command_of l) h t (table_after m (command_of l) t) refl e).is

going_on : (m : Meaning) (ls ks : List (List ℕ)) (t : Table) → answers m (ls ++ ks) t ≡ answers m ls t ++ answers m ks (table_after_all m ls t)
going_on m [] ks t = refl
going_on m (l ∷ ls) ks t =
    let a = line_of (replied m (command_of l) t) in
    let u = table_after m (command_of l) t in
    let rest = going_on m ls ks u in
    let joined = append_assoc a (answers m ls u) (answers m ks (table_after_all m ls u)) in
    ap (λ b. a ++ b) rest ∙ sym joined

pub told : (m : Meaning) → Laws m → Told m
told m laws = record { leads = λ ls. told_from m laws ls [] (new_table m) refl; goes_on = λ ls ks. going_on m ls ks (new_table m) }
