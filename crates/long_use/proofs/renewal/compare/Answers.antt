-- Settled out, both sheets have the limits and lines that they had, and `promise::compare` tells the rest (Comparing).
use Rattle.std.proofs.Common.{sym, ap, ◌∙◌}
use Rattle.long_use.proofs.Comparing.{limits_still, lines_still, never_different, tells}
use Rattle.long_use.proofs.renewal.compare.Goals as goal

pub returns-clause-alike : goal.returns-clause-alike
returns-clause-alike g c = λ limits lines e.
    let used = c.settle_out-used_ended in
    let new = c.settle_out-new_ended in
    let a = c.args.used.now in
    let b = c.args.new.now in
    let t = used.new.sheet.table in
    let u = new.new.sheet.table in
    let same_meaning = ap g.C.Catalogue.meaning used.ensures.catalogue ∙ c.requires ∙ sym (ap g.C.Catalogue.meaning new.ensures.catalogue) in
    never_different t u used.result new.result c.compare.result
    (tells t u used.result new.result c.compare.result used.ensures.outcome new.ensures.outcome c.compare.ensures.answer.0 c.compare.ensures.answer.1)
    c.compare.ensures.answer.0 (c.compare.ensures.at_rest same_meaning)
    (limits_still a.table b.table t u used.ensures.limits new.ensures.limits limits)
    (lines_still a.table b.table t u used.ensures.lines new.ensures.lines lines)
    (sym c.judge.ensures ∙ e)
