use Rattle.std.proofs.Common.{rules, ◌≡◌, refl, subst}
use Rattle.sheet.specs.declared.table.Outcome.{Outcome}
use Rattle.sheet.specs.declared.table.Outcome.TheVariants as outcome
use Rattle.sheet.specs.declared.table.State.{State}
use Rattle.sheet.specs.declared.table.State.TheVariants.{Settled, Open, Void}
use Rattle.sheet.specs.declared.table.Table.{Table}
use Rattle.sheet.specs.Calls.{outcome_number, outcome_of}
use Rattle.sheet.specs.Words.{Ended, IsSettle}
use Rattle.sheet.proofs.Wordings.{settle_words}
use Rattle.sheet.specs.Histories.{called, settle}
use Rattle.sheet.proofs.Reaching.{kept_if_reached, reached_by}
use Rattle.sheet.proofs.sheet.Sheet.settle.Goals as goal

pub invariant_of-self : goal.invariant_of-self
invariant_of-self g c =
    let s = c.args.self.now in
    let k = settle c.args.budget in
    let m = g.C.Catalogue.meaning s.catalogue in
    let e : c.settle-steps.new.self ≡ called m k s.table = search rules in
    record { reached = reached_by m s.table k c.settle-steps.new.self s.reached e }

pub returns-clause-words : goal.returns-clause-words
returns-clause-words g c =
    let s = c.args.self.now in
    let m = g.C.Catalogue.meaning s.catalogue in
    let b = c.args.budget in
    subst (λ a. IsSettle m b a.steps s.table a.table) c.settle-steps.ensures (settle_words m b s.table (kept_if_reached m s.table s.reached))

ended : (o : Outcome) (t : Table) → outcome_number o ≡ outcome_of t.state → Ended o t
ended o t e = by o t.state refl e
  where
    by : (o : Outcome) (s : State) → t.state ≡ s → outcome_number o ≡ outcome_of s → Ended o t
    by outcome.Settled Settled i h = i
    by outcome.Stopped Open i h = i
    by outcome.Void Void i h = i
    by outcome.Settled Open i h = absurd cc
    by outcome.Settled Void i h = absurd cc
    by outcome.Stopped Settled i h = absurd cc
    by outcome.Stopped Void i h = absurd cc
    by outcome.Void Settled i h = absurd cc
    by outcome.Void Open i h = absurd cc

pub returns-clause-outcome : goal.returns-clause-outcome
returns-clause-outcome g c = ended c.from.result c.settle-steps.new.self c.from.ensures
