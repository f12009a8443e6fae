use Rattle.std.proofs.Common.{rules, ◌≡◌, ℕ, Ok, Err, Result, sym, refl, subst}
use Rattle.catalogue.specs.declared.types.Range.{Range}
use Rattle.sheet.specs.Calls.{done, limit_asked, limit_table}
use Rattle.sheet.specs.Words.{IsLimit}
use Rattle.sheet.proofs.Recounts.{asked_words}
use Rattle.sheet.proofs.Wordings.{limit_words}
use Rattle.sheet.specs.Histories.{called, limit}
use Rattle.sheet.proofs.Reaching.{kept_if_reached, reached_by}
use Rattle.sheet.proofs.sheet.Sheet.limit.Goals as goal

pub invariant_of-self : goal.invariant_of-self
invariant_of-self g c =
    let s = c.args.self.now in
    let k = limit c.args.register c.args.low c.args.high in
    let m = g.C.Catalogue.meaning s.catalogue in
    let e : c.limit.new.self ≡ called m k s.table = search rules in
    record { reached = reached_by m s.table k c.limit.new.self s.reached e }

-- an answer that is no refusal is the range that was asked for
carried_out : (a : Result Range ℕ) → done a ≡ Ok tt → (b : Range) × (a ≡ Ok b)
carried_out (Ok b) e = (b, refl)
carried_out (Err n) e = absurd cc

pub returns-clause-words : goal.returns-clause-words
returns-clause-words g c =
    let s = c.args.self.now in
    let m = g.C.Catalogue.meaning s.catalogue in
    let r = c.args.register in
    let low = c.args.low in
    let high = c.args.high in
    let e : c.limit.new.self ≡ limit_table m r (limit_asked m r low high) s.table = search rules in
    let answer : done (limit_asked m r low high) ≡ Ok tt = search rules in
    let b = carried_out (limit_asked m r low high) answer in
    let asked = asked_words m r low high b.0 b.1 in
    record {
      limits = b.0;
      register = asked.register;
      reads_low = asked.reads_low;
      reads_high = asked.reads_high;
      proper = asked.proper;
      made = subst (IsLimit r b.0 s.table) (sym (subst (λ q. c.limit.new.self ≡ limit_table m r q s.table) b.1 e))
          (limit_words m r b.0 s.table asked.register (kept_if_reached m s.table s.reached));
    }
