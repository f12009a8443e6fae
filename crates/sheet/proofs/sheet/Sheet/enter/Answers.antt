use Rattle.std.proofs.Common.{rules, ◌≡◌, ◌<◌, ltb, false, sym, ◌∙◌, subst}
use Rattle.std.proofs.lemmas.Bool.{ltb-true, not-false}
use Rattle.sheet.specs.Rules.{stands, table_after_enter}
use Rattle.sheet.specs.Words.{IsEnter}
use Rattle.sheet.proofs.Wordings.{enter_words}
use Rattle.sheet.specs.Histories.{called, enter}
use Rattle.sheet.proofs.Reaching.{reached_by}
use Rattle.sheet.proofs.sheet.Sheet.enter.Goals as goal

pub invariant_of-self : goal.invariant_of-self
invariant_of-self g c =
    let s = c.args.self.now in
    let k = enter c.args.place c.args.line.line in
    let m = g.C.Catalogue.meaning s.catalogue in
    let e : c.enter.new.self ≡ called m k s.table = search rules in
    record { reached = reached_by m s.table k c.enter.new.self s.reached e }

pub returns-clause-words : goal.returns-clause-words
returns-clause-words g c =
    let s = c.args.self.now in
    let m = g.C.Catalogue.meaning s.catalogue in
    let n = c.args.place in
    let l = c.args.line.line in
    let named = c.in-Ok.ensures in
    let lt : n < 64 = ltb-true n 64 (not-false (ltb n 64) named.1) in
    let free : stands s.table n ≡ false = subst (λ k. stands s.table k ≡ false) named.0 (sym c.has.ensures ∙ c.if-has.false) in
    let at_n = subst (λ k. c.enter.new.self ≡ table_after_enter m k l s.table) named.0 c.enter.ensures in
    subst (IsEnter n l s.table) (sym at_n) (enter_words m n l s.table lt free)
