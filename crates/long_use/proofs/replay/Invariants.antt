use Rattle.std.proofs.Common.{◌≡◌}
use Rattle.long_use.proofs.replay.Given as goal

abbrev pub invariant-loop-line : goal.invariant-loop-line
invariant-loop-line g l = l.used.sheet.catalogue ≡ l.fn.used.sheet.catalogue
