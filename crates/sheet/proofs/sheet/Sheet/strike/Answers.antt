use Rattle.std.proofs.Common.{rules, ◌≡◌, false, not, sym, subst}
use Rattle.std.proofs.lemmas.Bool.{not-false, or_parts}
use Rattle.sheet.specs.Calls.{no_line}
use Rattle.sheet.specs.Numbers.{no_place}
use Rattle.sheet.specs.Rules.{stands, table_after_strike}
use Rattle.sheet.specs.Words.{IsStrike}
use Rattle.sheet.proofs.Wordings.{strike_words}
use Rattle.sheet.specs.Histories.{called, strike}
use Rattle.sheet.proofs.Reaching.{reached_by}
use Rattle.sheet.proofs.sheet.Sheet.strike.Goals as goal

pub invariant_of-self : goal.invariant_of-self
invariant_of-self g c =
    let s = c.args.self.now in
    let k = strike c.args.place in
    let m = g.C.Catalogue.meaning s.catalogue in
    let e : c.strike.new.self ≡ called m k s.table = search rules in
    record { reached = reached_by m s.table k c.strike.new.self s.reached e }

pub returns-clause-words : goal.returns-clause-words
returns-clause-words g c =
    let s = c.args.self.now in
    let m = g.C.Catalogue.meaning s.catalogue in
    let n = c.args.place in
    let e : c.strike.new.self ≡ table_after_strike m n s.table = search rules in
    let there : no_line n s.table ≡ false = search rules in
    let stood = not-false (stands s.table n) (or_parts (no_place n) (not (stands s.table n)) there).1 in
    subst (IsStrike n s.table) (sym e) (strike_words m n s.table stood)
