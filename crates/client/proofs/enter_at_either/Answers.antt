use Rattle.std.proofs.Common.{ap, ◌∙◌}
use Rattle.counters.specs.Counters.{counter}
use Rattle.sheet.specs.Calls.{enter_asked, enter_table}
use Rattle.client.proofs.Entering.{second_asked, second_table}
use Rattle.client.proofs.enter_at_either.Goals as goal

pub returns-in-Err-clause-answer : goal.returns-in-Err-clause-answer
returns-in-Err-clause-answer c =
    c.enter-in-Err.ensures.answer ∙ ap (enter_asked c.args.second c.in-Err.line) c.enter.ensures.table
    ∙ second_asked counter c.args.first c.args.line c.args.sheet.now.table (_, c.in-Err.line) c.in-Err.ensures.answer c.args.second

pub returns-in-Err-clause-table : goal.returns-in-Err-clause-table
returns-in-Err-clause-table c =
    c.enter-in-Err.ensures.table ∙ ap (enter_table counter c.args.second c.in-Err.line) c.enter.ensures.table
    ∙ second_table counter c.args.first c.args.line c.args.sheet.now.table (_, c.in-Err.line) c.in-Err.ensures.answer c.args.second
