-- The lines of a sheet, by place, and how the rows of a board keep them.
use Rattle.std.specs.Prelude.{◌≡◌, ℕ, suc, ◌<◌, Bool, true, false, ◌||◌, List, [], ◌∷◌, length, is_some, Some, None, Ok, Err, Option, Result, ◌==◌, slice_index_or, slice_set}
use Rattle.catalogue.specs.declared.types.Refusal.{Refusal}
use Rattle.sheet.specs.declared.lines.CheckedLine.{CheckedLine}
use Rattle.sheet.specs.declared.lines.Line.{Line}
use Rattle.sheet.specs.declared.places.Places.{Places}
use Rattle.sheet.specs.declared.table.Row.{Row}
use Rattle.sheet.specs.declared.TheConstants.{PLACES, REGISTERS}
use Rattle.sheet.specs.Lines.{checked_line, drawn_of}
use Rattle.sheet.specs.Places.{has, none, places_where, with_place, without}

-- ---- what contracts see: the line at each place, or none

abbrev pub line_in : List (Option Line) → ℕ → Option Line
line_in ls n = slice_index_or ls n None

-- what a checked line says
abbrev pub line_answer : Result CheckedLine Refusal → Option Line
line_answer (Ok l) = Some l.line
line_answer (Err e) = None

-- whether a line names a register
abbrev pub names : ℕ → Option Line → Bool
names r None = false
names r (Some l) = l.x == r || (l.y == r || l.z == r)

-- the places where a line stands
unfoldable pub places_with_line : List (Option Line) → Places
places_with_line ls = places_where (λ n. is_some (line_in ls n))

-- the places of the lines that name a register
unfoldable pub places_naming : ℕ → List (Option Line) → Places
places_naming r ls = places_where (λ n. names r (line_in ls n))

-- ---- what the fields keep, which nobody has to believe

-- the line of a row, if it passes the check
abbrev pub line_or_none : Result Line ℕ → Option Line
line_or_none (Ok l) = Some l
line_or_none (Err e) = None

abbrev pub line_if : Bool → Row → Option Line
line_if true w = line_or_none (checked_line (drawn_of w))
line_if false w = None

-- the lines of rows, of which those in a set of places count, and the first is that of place k
abbrev pub lines_from : Places → ℕ → List Row → List (Option Line)
lines_from s k [] = []
lines_from s k (w ∷ ws) = line_if (has s k) w ∷ lines_from s (suc k) ws

abbrev pub lines_of : Places → List Row → List (Option Line)
lines_of s ws = lines_from s 0 ws

-- just the places of lines are marked as standing, so each standing row passes the check; and the index has, for each
-- register, just the places of the lines that name it
pub record Agrees (rows : List Row) (standing : Places) (naming : List Places) : Type 0 where
  pub places : length rows ≡ PLACES
  pub registers : length naming ≡ REGISTERS
  pub stands : standing ≡ places_with_line (lines_of standing rows)
  pub index : (r : ℕ) → r < REGISTERS → slice_index_or naming r none ≡ places_naming r (lines_of standing rows)

-- an index in which the line at n names r, and one in which it names r no longer
abbrev pub index_with : ℕ → ℕ → List Places → List Places
index_with n r s = slice_set s r (with_place n (slice_index_or s r none))

abbrev pub index_without : ℕ → ℕ → List Places → List Places
index_without n r s = slice_set s r (without n (slice_index_or s r none))
