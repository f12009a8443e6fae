-- A declined call leaves the table as it was.
use Rattle.std.proofs.Common.{◌≡◌, ℕ, Bool, true, false, cond, not, ◌||◌, Ok, Err, Result, refl}
use Rattle.catalogue.specs.declared.types.Range.{Range}
use Rattle.catalogue.specs.Meanings.{Meaning}
use Rattle.sheet.specs.declared.table.Table.{Table}
use Rattle.sheet.specs.Calls.{bad_budget, limit_asked, limit_table, no_line}
use Rattle.sheet.specs.Numbers.{no_place}
use Rattle.sheet.specs.Rules.{table_after_enter, settling, stands, table_after_strike}
use Rattle.promise.specs.Histories.{Call, limit, enter, strike, settle, look, partner, called, declines, is_refusal, passes_check}

no_limits : (m : Meaning) (r : ℕ) (q : Result Range ℕ) (t : Table) → is_refusal q ≡ true → limit_table m r q t ≡ t
no_limits m r (Ok b) t e = absurd cc
no_limits m r (Err e) t _ = refl

no_line_entered : (p far taken : Bool) (t u : Table) → (not p || is_refusal {A = Unit {0}} (cond far (Err 7) (cond taken (Err 6) (Ok tt)))) ≡ true → cond p (cond (far || taken) t u) t ≡ t
no_line_entered false far taken t u e = refl
no_line_entered true true taken t u e = refl
no_line_entered true false true t u e = refl
no_line_entered true false false t u e = absurd cc

not_carried_out : {A : Type 0} (b : Bool) (n : ℕ) (a : A) (t u : Table) → is_refusal {A = A} (cond b (Err n) (Ok a)) ≡ true → cond b t u ≡ t
not_carried_out true n a t u e = refl
not_carried_out false n a t u e = absurd cc

pub called_declined : (m : Meaning) (k : Call) (t : Table) → declines m k t ≡ true → called m k t ≡ t
called_declined m (limit r low high) t e = no_limits m r (limit_asked m r low high) t e
called_declined m (enter n l) t e = no_line_entered (passes_check l) (no_place n) (stands t n) t (table_after_enter m n l t) e
called_declined m (strike n) t e = not_carried_out (no_line n t) 7 tt t (table_after_strike m n t) e
called_declined m (settle b) t e = not_carried_out (bad_budget b) 8 _ t (settling m b t).table e
called_declined m (look r) t e = refl
called_declined m (partner n x z) t e = refl
