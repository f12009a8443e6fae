-- The loop of `Table::settle` keeps this: the steps made, and those for the rest of the budget, are the steps of the whole.
use Rattle.std.proofs.Common.{◌≡◌, ◌-◌}
use Rattle.sheet.specs.Rules.{settling, after_steps}
use Rattle.sheet.proofs.table.Table.settle.Given as goal

abbrev pub invariant-loop-made : goal.invariant-loop-made
invariant-loop-made g l =
    let m = g.C.Catalogue.meaning l.catalogue in
    settling m l.budget l.initial.self ≡ after_steps l.made (settling m (l.budget - l.made) l.self)
