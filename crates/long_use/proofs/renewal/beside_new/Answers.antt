-- The new sheet has what stands on the used one, and the comparison keeps it on both (Comparing).
use Rattle.long_use.proofs.Comparing.{limits_still, lines_still}
use Rattle.long_use.proofs.renewal.beside_new.Goals as goal

pub returns-clause-limits : goal.returns-clause-limits
returns-clause-limits g c =
    let after = c.compare-compared in
    limits_still c.args.used.now.table c.renewed-new.result.table after.new.used.table after.new.new.table after.ensures.used_stays.0 after.ensures.new_stays.0 c.renewed-new.ensures.limits

pub returns-clause-lines : goal.returns-clause-lines
returns-clause-lines g c =
    let after = c.compare-compared in
    lines_still c.args.used.now.table c.renewed-new.result.table after.new.used.table after.new.new.table after.ensures.used_stays.1 after.ensures.new_stays.1 c.renewed-new.ensures.lines
