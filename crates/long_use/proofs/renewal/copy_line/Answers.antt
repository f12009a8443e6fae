-- The line read back is entered, since its place on the other sheet is free (Copying).
use Rattle.std.proofs.Common.{◌<◌, ◌-◌, Ok, sym, ap, ◌∙◌, arith}
use Rattle.catalogue.specs.Refusals.{numbered}
use Rattle.sheet.proofs.Reaching.{kept_if_reached}
use Rattle.long_use.proofs.Copying.{line_copied}
use Rattle.long_use.proofs.renewal.copy_line.Goals as goal

pub returns-in-Ok-Some-clause-there : goal.returns-in-Ok-Some-clause-there
returns-in-Ok-Some-clause-there g c =
    let from = c.args.from.now in
    let to = c.args.to.now in
    let arm = c.in-Ok-Some in
    let lt : 63 - c.args.place < 64 = omega arith in
    line_copied from.table to.table c.tie.new.self.table
    (kept_if_reached (g.C.Catalogue.meaning from.catalogue) from.table from.reached)
    (kept_if_reached (g.C.Catalogue.meaning to.catalogue) to.table to.reached)
    c.args.place (63 - c.args.place) c.requires.place lt arm.line c.from.result
    (sym (ap numbered (arm.is ∙ ap Ok arm.field-0-is)) ∙ c.line.ensures.answer) c.from.ensures c.requires.free
    c.tie.result c.tie.ensures.answer c.tie.ensures.words
