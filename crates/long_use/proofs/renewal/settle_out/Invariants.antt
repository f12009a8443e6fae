-- So far limits, lines and catalogue stayed, and the last outcome tells the state.
use Rattle.std.proofs.Common.{◌≡◌}
use Rattle.sheet.specs.Calls.{outcome_number, outcome_of}
use Rattle.long_use.proofs.renewal.settle_out.Given as goal

abbrev pub invariant-loop : goal.invariant-loop
invariant-loop g l = record {
  outcome : outcome_number l.outcome ≡ outcome_of l.sheet.table.state;
  limits : l.sheet.table.limits ≡ l.fn.sheet.table.limits;
  lines : l.sheet.table.lines ≡ l.fn.sheet.table.lines;
  catalogue : l.sheet.catalogue ≡ l.fn.sheet.catalogue;
}
