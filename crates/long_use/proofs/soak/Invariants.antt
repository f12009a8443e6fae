-- The used sheet keeps the catalogue, and no comparison was different.
use Rattle.std.proofs.Common.{◌≡◌}
use Rattle.long_use.proofs.soak.Given as goal

abbrev pub invariant-loop : goal.invariant-loop
invariant-loop g l = record {
  catalogue : l.used.sheet.catalogue ≡ l.catalogue;
  none_different : l.counts.different ≡ 0;
}

abbrev pub invariant-loop-2 : goal.invariant-loop-2
invariant-loop-2 g l = record {
  catalogue : l.used.sheet.catalogue ≡ l.catalogue;
  none_different : l.counts.different ≡ 0;
}
