-- Drawn lines, and what the check answers.
use Rattle.std.specs.Prelude.{ℕ, cond, ◌||◌, Some, None, Ok, Err, Option, Result}
use Rattle.catalogue.specs.declared.types.Kind.{Kind}
use Rattle.catalogue.specs.declared.types.Refusal.{Refusal}
use Rattle.catalogue.specs.Numbers.{kind_number, kind_of, no_modes}
use Rattle.catalogue.specs.Refusals.{refusal_number}
use Rattle.sheet.specs.declared.lines.CheckedLine.{CheckedLine}
use Rattle.sheet.specs.declared.lines.DrawnLine.{DrawnLine}
use Rattle.sheet.specs.declared.lines.Line.{Line}
use Rattle.sheet.specs.declared.table.Row.{Row}
use Rattle.sheet.specs.Numbers.{no_register}

-- the line, or why it is declined: first its kind (4), then its mode set (5), then its registers (1)
abbrev pub checked_line_of : Option Kind → DrawnLine → Result Line ℕ
checked_line_of None d = Err 4
checked_line_of (Some k) d =
    cond (no_modes d.modes) (Err 5)
    (cond (no_register d.x || (no_register d.y || no_register d.z)) (Err 1)
    (Ok record { operation = record { kind = k; modes = record { bits = d.modes } }; x = d.x; y = d.y; z = d.z }))

abbrev pub checked_line : DrawnLine → Result Line ℕ
checked_line d = checked_line_of (kind_of d.kind) d

-- an answer of the check, with what the checked line says and its refusal by number
abbrev pub check_answer : Result CheckedLine Refusal → Result Line ℕ
check_answer (Ok l) = Ok l.line
check_answer (Err e) = Err (refusal_number e)

-- a line as a row of plain numbers, and a row as a drawn line
abbrev pub row_of : Line → Row
row_of l = record { kind = kind_number l.operation.kind; modes = l.operation.modes.bits; x = l.x; y = l.y; z = l.z }

abbrev pub drawn_of : Row → DrawnLine
drawn_of w = record { kind = w.kind; modes = w.modes; x = w.x; y = w.y; z = w.z }
