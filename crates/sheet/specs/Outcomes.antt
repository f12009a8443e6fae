-- The texts of an outcome and of a state.
use Rattle.std.specs.Prelude.{ℕ, cond, List, codes, ◌==◌}
use Rattle.sheet.specs.declared.table.State.{State}
use Rattle.sheet.specs.declared.table.State.TheVariants.{Settled, Open, Void}

-- how a settle ended, by its number
abbrev pub outcome_text : ℕ → List ℕ
outcome_text k = cond (k == 0) (codes "settled") (cond (k == 1) (codes "stopped") (codes "void"))

-- what a sheet tells of itself for debugging: its state, and no range
abbrev pub sheet_text : State → List ℕ
sheet_text Settled = codes "Sheet { state: Settled, .. }"
sheet_text Open = codes "Sheet { state: Open, .. }"
sheet_text Void = codes "Sheet { state: Void, .. }"
