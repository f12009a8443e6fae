-- A line entered at one of two places, and a look that ends before the sheet changes.
use Rattle.std.specs.Prelude.{ℕ, cond, Ok, Err, Result}
use Rattle.catalogue.specs.Meanings.{Meaning}
use Rattle.sheet.specs.declared.lines.CheckedLine.{CheckedLine}
use Rattle.sheet.specs.declared.table.Table.{Table}
use Rattle.catalogue.specs.declared.types.Range.{Range}
use Rattle.sheet.specs.Calls.{enter_asked, enter_table, is_void, settle_table, shown_range}

-- what the second place answers and leaves, where the first one refuses the line
abbrev pub otherwise : {A : Type 0} → Result (Unit {0}) (ℕ × CheckedLine) → A → A → A
otherwise (Ok x) first second = first
otherwise (Err e) first second = second

abbrev pub either_asked : ℕ → ℕ → CheckedLine → Table → Result (Unit {0}) (ℕ × CheckedLine)
either_asked n k l t = otherwise (enter_asked n l t) (Ok tt) (enter_asked k l t)

abbrev pub either_table : Meaning → ℕ → ℕ → CheckedLine → Table → Table
either_table m n k l t = otherwise (enter_asked n l t) (enter_table m n l t) (enter_table m k l t)

-- what a look at one register answers
abbrev pub peeked : ℕ → Table → Result Range ℕ
peeked r t = cond (is_void t.state) (Err 9) (shown_range r t)

-- one step, unless the look was declined
abbrev pub stepped : Meaning → Result Range ℕ → Table → Table
stepped m (Err e) t = t
stepped m (Ok a) t = settle_table m 1 t
