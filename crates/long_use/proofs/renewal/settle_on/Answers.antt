-- A settle with the largest budget is not refused, and keeps limits and lines (Settling).
use Rattle.std.proofs.Common.{refl, sym, ap, ◌∙◌}
use Rattle.sheet.specs.Calls.{settle_answer}
use Rattle.sheet.proofs.Reaching.{kept_if_reached}
use Rattle.long_use.proofs.Settling.{ended, limits_stay, lines_stay, not_refused}
use Rattle.long_use.proofs.renewal.settle_on.Goals as goal

pub returns-in-Ok-clause-outcome : goal.returns-in-Ok-clause-outcome
returns-in-Ok-clause-outcome g c =
    let old = c.args.sheet.now in
    ended (g.C.Catalogue.meaning old.catalogue) old.table c.settle.new.self.table 65535 refl c.settle.ensures.table (c.in-Ok.outcome, c.in-Ok.field-0-1)
    (sym (ap settle_answer c.in-Ok.is) ∙ c.settle.ensures.answer)

pub returns-in-Ok-clause-limits : goal.returns-in-Ok-clause-limits
returns-in-Ok-clause-limits g c =
    let old = c.args.sheet.now in
    limits_stay (g.C.Catalogue.meaning old.catalogue) old.table c.settle.new.self.table 65535 refl c.settle.ensures.table
    (kept_if_reached (g.C.Catalogue.meaning old.catalogue) old.table old.reached)

pub returns-in-Ok-clause-lines : goal.returns-in-Ok-clause-lines
returns-in-Ok-clause-lines g c =
    let old = c.args.sheet.now in
    lines_stay (g.C.Catalogue.meaning old.catalogue) old.table c.settle.new.self.table 65535 refl c.settle.ensures.table
    (kept_if_reached (g.C.Catalogue.meaning old.catalogue) old.table old.reached)

pub returns-in-Err-clause-outcome : goal.returns-in-Err-clause-outcome
returns-in-Err-clause-outcome g c =
    let old = c.args.sheet.now in
    absurd (not_refused (g.C.Catalogue.meaning old.catalogue) old.table c.settle.new.self.table 65535 refl c.settle.ensures.table c.in-Err.field-0
    (sym (ap settle_answer c.in-Err.is) ∙ c.settle.ensures.answer))

pub returns-in-Err-clause-limits : goal.returns-in-Err-clause-limits
returns-in-Err-clause-limits g c =
    let old = c.args.sheet.now in
    limits_stay (g.C.Catalogue.meaning old.catalogue) old.table c.settle.new.self.table 65535 refl c.settle.ensures.table
    (kept_if_reached (g.C.Catalogue.meaning old.catalogue) old.table old.reached)

pub returns-in-Err-clause-lines : goal.returns-in-Err-clause-lines
returns-in-Err-clause-lines g c =
    let old = c.args.sheet.now in
    lines_stay (g.C.Catalogue.meaning old.catalogue) old.table c.settle.new.self.table 65535 refl c.settle.ensures.table
    (kept_if_reached (g.C.Catalogue.meaning old.catalogue) old.table old.reached)
