-- What a comparison of two sheets tells.
use Rattle.std.specs.Prelude.{◌≡◌, ◌≢◌, ℕ, ◌<◌, true, ◌⊎◌}
use Rattle.sheet.specs.declared.table.State.TheVariants.{Void}
use Rattle.sheet.specs.declared.table.Table.{Table}
use Rattle.sheet.specs.declared.TheConstants.{REGISTERS}
use Rattle.sheet.specs.Rules.{at_rest, limits_at, line_at, range_at}
use Rattle.promise.specs.Promise.{SameLimits, SameLines}

-- two tables show the same: both are void, or both are settled, or both open, with the same range at every register
abbrev pub ShowSame : Table → Table → Type 0
ShowSame t u = ((t.state ≡ Void) × (u.state ≡ Void)) ⊎ ((t.state ≢ Void) × (t.state ≡ u.state) × ((r : ℕ) → r < REGISTERS → range_at t r ≡ range_at u r))

-- both are at rest, and have the same limits and the same lines
pub record SameAtRest (t u : Table) : Type 0 where
  pub rests : at_rest t.state ≡ true
  pub rests_too : at_rest u.state ≡ true
  pub limits : SameLimits (limits_at t) (limits_at u)
  pub lines : SameLines (line_at t) (line_at u)
