-- A settle with a budget that is one: it keeps limits and lines, and its outcome tells the state.
use Rattle.std.proofs.Common.{◌≡◌, ℕ, false, Ok, Err, Result, ap, ◌∙◌, sym}
use Rattle.std.proofs.lemmas.Bool.{cond-false}
use Rattle.catalogue.specs.declared.types.Refusal.{Refusal}
use Rattle.catalogue.specs.Meanings.{Meaning}
use Rattle.sheet.specs.declared.table.Outcome.{Outcome}
use Rattle.sheet.specs.declared.table.Table.{Table}
use Rattle.sheet.specs.Calls.{bad_budget, outcome_number, outcome_of, run_asked, settle_answer, settle_asked, settle_table}
use Rattle.sheet.specs.Rules.{settling}
use Rattle.sheet.proofs.Kept.{Kept}
use Rattle.sheet.proofs.Recounts.{settle_stays}

abbrev outcome_read : Result (ℕ × ℕ) ℕ → ℕ
outcome_read (Ok p) = p.0
outcome_read (Err e) = 0

module _ (m : Meaning) (t u : Table) (b : ℕ) (fits : bad_budget b ≡ false) (made : u ≡ settle_table m b t) where
  settled : u ≡ (settling m b t).table
  settled = made ∙ cond-false (bad_budget b) t (settling m b t).table fits

  pub limits_stay : Kept t → u.limits ≡ t.limits
  limits_stay kept = ap (λ v. v.limits) settled ∙ (settle_stays m b t kept).0

  pub lines_stay : Kept t → u.lines ≡ t.lines
  lines_stay kept = ap (λ v. v.lines) settled ∙ (settle_stays m b t kept).1

  -- the budget is not refused
  answered : (o : Result (Outcome × ℕ) Refusal) → settle_answer o ≡ settle_asked m b t → settle_answer o ≡ Ok (run_asked (settling m b t))
  answered o e = e ∙ cond-false (bad_budget b) (Err 8) (Ok (run_asked (settling m b t))) fits

  pub ended : (p : Outcome × ℕ) → settle_answer (Ok p) ≡ settle_asked m b t → outcome_number p.0 ≡ outcome_of u.state
  ended p e =
      let same : outcome_number p.0 ≡ outcome_of (settling m b t).table.state = ap outcome_read (answered (Ok p) e) in
      same ∙ sym (ap (λ v. outcome_of v.state) settled)

  pub not_refused : (e : Refusal) → settle_answer (Err e) ≡ settle_asked m b t → ⊥
  not_refused e f = let h = answered (Err e) f in cc
