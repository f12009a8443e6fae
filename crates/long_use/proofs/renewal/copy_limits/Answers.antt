-- The limits read back are carried out (Copying).
use Rattle.std.proofs.Common.{sym, ap, ◌∙◌, subst}
use Rattle.catalogue.specs.Refusals.{numbered}
use Rattle.sheet.specs.Calls.{in_patterns, limits_asked}
use Rattle.sheet.specs.Histories.{Reached}
use Rattle.sheet.proofs.Reaching.{kept_if_reached}
use Rattle.long_use.proofs.Copying.{limits_copied}
use Rattle.long_use.proofs.renewal.copy_limits.Goals as goal

pub returns-in-Ok-clause-there : goal.returns-in-Ok-clause-there
returns-in-Ok-clause-there g c =
    let from = c.args.from.now in
    let to = c.args.to.now in
    let m = g.C.Catalogue.meaning to.catalogue in
    limits_copied m (g.met.C.Catalogue.laws to.catalogue) from.table
    (subst (λ n. ∥ Reached n from.table ∥₁) c.requires.same_meaning from.reached)
    c.args.register c.requires.register c.in-Ok.low c.in-Ok.high
    (sym (ap numbered c.in-Ok.is) ∙ c.limits.ensures.answer ∙ ap (λ n. in_patterns n (limits_asked c.args.register from.table)) c.requires.same_meaning)
    to.table c.limit.new.self.table
    (kept_if_reached m to.table to.reached)
    c.limit.result c.limit.ensures.answer c.limit.ensures.words
