-- No line stands on a new sheet; and lines that stand as far from the last place are the same lines (Copying).
use Rattle.std.proofs.Common.{ap, ◌∙◌, arith}
use Rattle.sheet.specs.Rules.{line_at}
use Rattle.sheet.proofs.Boards.{no_lines}
use Rattle.sheet.proofs.Reaching.{kept_if_reached}
use Rattle.long_use.proofs.Copying.{lines_moved}
use Rattle.long_use.proofs.renewal.renewed.Goals as goal

pub loop-register-init : goal.loop-register-init
loop-register-init g c = record {
  given = λ r h. absurd (omega arith);
  free = λ n. ap (λ t. line_at t n) c.new-new.ensures.table ∙ no_lines n;
  catalogue = c.new-new.ensures.catalogue;
}

pub returns-clause-lines : goal.returns-clause-lines
returns-clause-lines g c =
    let used = c.args.used.now in
    let new = c.loop-place.new in
    lines_moved used.table new.table
    (kept_if_reached (g.C.Catalogue.meaning used.catalogue) used.table used.reached)
    (kept_if_reached (g.C.Catalogue.meaning new.catalogue) new.table new.reached)
    (λ n h. c.loop-place.invariant.moved n (omega arith))
