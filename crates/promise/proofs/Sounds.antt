-- The invariant: what holds of the table of every sheet, by its own limits and lines.
use Rattle.std.proofs.Common.{◌≡◌, ℕ, ◌<◌, true, false, Some}
use Rattle.catalogue.specs.Meanings.{Meaning, all_readings}
use Rattle.catalogue.specs.Ranges.{Within, Proper}
use Rattle.sheet.specs.declared.lines.Line.{Line}
use Rattle.sheet.specs.declared.table.Table.{Table}
use Rattle.sheet.specs.Calls.{is_void}
use Rattle.sheet.specs.Places.{has}
use Rattle.sheet.specs.Rules.{line_at, limits_at, range_at}
use Rattle.sheet.proofs.Kept.{Kept}
use Rattle.promise.specs.Promise.{Inside, Lines, Ranges}
use Rattle.promise.proofs.Unmoving.{Unmoved}

-- a consistent set within limits
pub record Fixed (m : Meaning) (limits : Ranges) (lines : Lines) (σ : Ranges) : Type 0 where
  pub proper : (r : ℕ) → r < 32 → Proper (σ r)
  pub within : Inside σ limits
  pub unmoved : (n : ℕ) (l : Line) → lines n ≡ Some l → Unmoved m σ l

-- a table that is not void: its ranges hold every such set, and only a line that is due may be moved
pub record Live (m : Meaning) (t : Table) : Type 0 where
  pub holds : (σ : Ranges) → Fixed m (limits_at t) (line_at t) σ → Inside σ (range_at t)
  pub proper : (r : ℕ) → r < 32 → Proper (range_at t r)
  pub within : Inside (range_at t) (limits_at t)
  pub quiet : (k : ℕ) (l : Line) → line_at t k ≡ Some l → has t.due k ≡ false → Unmoved m (range_at t) l

pub record Sound (m : Meaning) (t : Table) : Type 0 where
  pub kept : Kept t
  pub proper : (r : ℕ) → r < 32 → Proper (limits_at t r)
  pub readings : (r : ℕ) → r < 32 → Within (limits_at t r) (all_readings m)
  pub live : is_void t.state ≡ false → Live m t
  pub void : is_void t.state ≡ true → (σ : Ranges) → Fixed m (limits_at t) (line_at t) σ → ⊥
