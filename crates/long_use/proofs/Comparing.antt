-- What a comparison tells, by how the two sheets ended, and that with the same limits and lines it tells no difference.
use Rattle.std.proofs.Common.{◌≡◌, ◌≢◌, Bool, true, false, sym, refl, ap, ◌∙◌, inl, inr, ⊎_elim, get_or, subst}
use Rattle.sheet.specs.declared.table.Outcome.{Outcome}
use Rattle.sheet.specs.declared.table.Outcome.TheVariants as outcome
use Rattle.sheet.specs.declared.table.State.{State}
use Rattle.sheet.specs.declared.table.State.TheVariants.{Settled, Open, Void}
use Rattle.sheet.specs.declared.table.Table.{Table}
use Rattle.sheet.specs.Calls.{outcome_number, outcome_of}
use Rattle.sheet.specs.Boards.{line_in}
use Rattle.sheet.specs.Rules.{at_rest, limits_at, line_at, no_range}
use Rattle.promise.specs.Compared.{SameAtRest, ShowSame}
use Rattle.promise.specs.Promise.{SameLimits, SameLines}
use Rattle.long_use.specs.Comparisons.{Tells, judged}
use Rattle.long_use.specs.declared.renewal.Compared.TheVariants.{Different}

ended_settled : (s : State) → 0 ≡ outcome_of s → s ≡ Settled
ended_settled Settled e = refl
ended_settled Open e = absurd cc
ended_settled Void e = absurd cc

ended_open : (s : State) → 1 ≡ outcome_of s → s ≡ Open
ended_open Settled e = absurd cc
ended_open Open e = refl
ended_open Void e = absurd cc

ended_void : (s : State) → 2 ≡ outcome_of s → s ≡ Void
ended_void Settled e = absurd cc
ended_void Open e = absurd cc
ended_void Void e = refl

-- tables that show the same are in the same state
same_state : (t u : Table) → ShowSame t u → t.state ≡ u.state
same_state t u h = ⊎_elim
    (λ (v : (t.state ≡ Void) × (u.state ≡ Void)). v.0 ∙ sym v.1)
    (λ v. v.1)
    h

module _ (t u : Table) where
  settled_void : t.state ≡ Settled → u.state ≡ Void → ShowSame t u → ⊥
  settled_void e f h = let s = same_state t u h in cc

  void_settled : t.state ≡ Void → u.state ≡ Settled → ShowSame t u → ⊥
  void_settled e f h = let s = same_state t u h in cc

  not_alike : (b : Bool) → b ≡ false → (ShowSame t u → b ≡ true) → ShowSame t u → ⊥
  not_alike b e told h = let f = told h in cc

  pub tells : (o p : Outcome) (b : Bool) → outcome_number o ≡ outcome_of t.state → outcome_number p ≡ outcome_of u.state → (b ≡ true → ShowSame t u) → (ShowSame t u → b ≡ true) → Tells (judged o p b) t u
  tells outcome.Stopped p b e f same told = inl (ended_open t.state e)
  tells outcome.Settled outcome.Stopped b e f same told = inr (ended_open u.state f)
  tells outcome.Void outcome.Stopped b e f same told = inr (ended_open u.state f)
  tells outcome.Settled outcome.Settled true e f same told = (ended_settled t.state e, ended_settled u.state f, same refl)
  tells outcome.Settled outcome.Settled false e f same told = (ap at_rest (ended_settled t.state e), ap at_rest (ended_settled u.state f), not_alike false refl told)
  tells outcome.Void outcome.Void true e f same told = (ended_void t.state e, ended_void u.state f, same refl)
  tells outcome.Void outcome.Void false e f same told = (ap at_rest (ended_void t.state e), ap at_rest (ended_void u.state f), not_alike false refl told)
  tells outcome.Settled outcome.Void b e f same told = (ap at_rest (ended_settled t.state e), ap at_rest (ended_void u.state f), settled_void (ended_settled t.state e) (ended_void u.state f))
  tells outcome.Void outcome.Settled b e f same told = (ap at_rest (ended_void t.state e), ap at_rest (ended_settled u.state f), void_settled (ended_void t.state e) (ended_settled u.state f))

  -- a difference is told only of sheets at rest that do not show the same
  pub never_different : (o p : Outcome) (b : Bool) → Tells (judged o p b) t u → (b ≡ true → ShowSame t u) → (SameAtRest t u → b ≡ true) → SameLimits (limits_at t) (limits_at u) → SameLines (line_at t) (line_at u) → judged o p b ≢ Different
  never_different o p b h same rest limits lines e =
      let told = rw e at h in
      told.2 (same (rest (record { rests = told.0; rests_too = told.1; limits = limits; lines = lines })))

-- tables that keep their limits, and their lines, keep them the same as each other's
module _ (t u v w : Table) where
  pub limits_still : v.limits ≡ t.limits → w.limits ≡ u.limits → SameLimits (limits_at t) (limits_at u) → SameLimits (limits_at v) (limits_at w)
  limits_still e f same r lt = ap (λ ls. get_or ls r no_range) e ∙ same r lt ∙ sym (ap (λ ls. get_or ls r no_range) f)

  pub lines_still : v.lines ≡ t.lines → w.lines ≡ u.lines → SameLines (line_at t) (line_at u) → SameLines (line_at v) (line_at w)
  lines_still e f same = subst (λ ls. SameLines (λ n. line_in ls n) (line_at w)) (sym e) (subst (λ ls. SameLines (line_at t) (λ n. line_in ls n)) (sym f) same)
