-- What a comparison of two sheets tells of their tables.
use Rattle.std.specs.Prelude.{◌≡◌, Bool, true, false, ◌⊎◌}
use Rattle.sheet.specs.declared.table.Outcome.{Outcome}
use Rattle.sheet.specs.declared.table.Outcome.TheVariants as outcome
use Rattle.sheet.specs.declared.table.State.TheVariants.{Settled, Open, Void}
use Rattle.sheet.specs.declared.table.Table.{Table}
use Rattle.sheet.specs.Rules.{at_rest}
use Rattle.promise.specs.Compared.{ShowSame}
use Rattle.long_use.specs.declared.renewal.Compared.{Compared}
use Rattle.long_use.specs.declared.renewal.Compared.TheVariants.{BothSettled, BothVoid, NotAtRest, Different}

-- both are settled, or void, and show the same; or one of them is not at rest; or both are, and do not show the same
abbrev pub Tells : Compared → Table → Table → Type 0
Tells BothSettled t u = (t.state ≡ Settled) × (u.state ≡ Settled) × ShowSame t u
Tells BothVoid t u = (t.state ≡ Void) × (u.state ≡ Void) × ShowSame t u
Tells NotAtRest t u = (t.state ≡ Open) ⊎ (u.state ≡ Open)
Tells Different t u = (at_rest t.state ≡ true) × (at_rest u.state ≡ true) × (ShowSame t u → ⊥)

-- by how both ended, and whether they show the same
abbrev pub judged : Outcome → Outcome → Bool → Compared
judged outcome.Stopped p b = NotAtRest
judged outcome.Settled outcome.Stopped b = NotAtRest
judged outcome.Void outcome.Stopped b = NotAtRest
judged outcome.Settled outcome.Settled true = BothSettled
judged outcome.Settled outcome.Settled false = Different
judged outcome.Void outcome.Void true = BothVoid
judged outcome.Void outcome.Void false = Different
judged outcome.Settled outcome.Void b = Different
judged outcome.Void outcome.Settled b = Different
