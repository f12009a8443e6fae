-- The rules of a table: what each event, and each step, makes of it.
use Rattle.std.specs.Prelude.{ℕ, zero, suc, ◌+◌, Bool, true, false, cond, replicate, pos, is_some, Some, None, Ok, Err, Option, Result, slice_index_or, slice_set}
use Rattle.catalogue.specs.declared.types.Range.{Range}
use Rattle.catalogue.specs.declared.types.Triple.{Triple}
use Rattle.catalogue.specs.Meanings.{Meaning, all_readings}
use Rattle.catalogue.specs.Ranges.{empty, holds_all, meet, smaller}
use Rattle.sheet.specs.declared.lines.Line.{Line}
use Rattle.sheet.specs.declared.table.Empty.{Empty}
use Rattle.sheet.specs.declared.table.Event.{Event}
use Rattle.sheet.specs.declared.table.Event.TheVariants.{Tightened, Loosened, Entered, Struck, Step}
use Rattle.sheet.specs.declared.table.State.{State}
use Rattle.sheet.specs.declared.table.State.TheVariants.{Settled, Open, Void}
use Rattle.sheet.specs.declared.table.Table.{Table}
use Rattle.sheet.specs.declared.TheConstants.{PLACES, REGISTERS}
use Rattle.sheet.specs.Boards.{line_in, places_naming, places_with_line}
use Rattle.sheet.specs.Places.{none, with_place, without, union, is_none, lowest}

-- ---- parts of a table

abbrev pub no_range : Range
no_range = record { low = pos 0; high = pos 0 }

abbrev pub limits_at : Table → ℕ → Range
limits_at t r = slice_index_or t.limits r no_range

abbrev pub range_at : Table → ℕ → Range
range_at t r = slice_index_or t.ranges r no_range

abbrev pub line_at : Table → ℕ → Option Line
line_at t n = line_in t.lines n

-- whether a line stands at a place
abbrev pub stands : Table → ℕ → Bool
stands t n = is_some (line_at t n)

-- ---- rest, void, and the return to the limits

-- open if a line is due, settled if none is
abbrev pub rest_or_open : Table → Table
rest_or_open t = record t { state = cond (is_none t.due) Settled Open }

-- nothing is due, and no range is kept
abbrev pub void_table : Table → Table
void_table t = record t { ranges = t.limits; due = none; state = Void }

-- all ranges return to the limits, and all lines are due
abbrev pub table_at_limits : Table → Table
table_at_limits t = rest_or_open (record t { ranges = t.limits; due = places_with_line t.lines })

-- ---- cuts

-- register r's range becomes another, and the lines that name r become due
abbrev pub table_with_range : ℕ → Range → Table → Table
table_with_range r new t = record t { ranges = slice_set t.ranges r new; due = union t.due (places_naming r t.lines) }

-- register r's range is cut to what it has in common with b, if that leaves something; a line is due only for a range that changed
abbrev pub cut_table : ℕ → Range → Table → Table
cut_table r b t = cond (smaller (meet (range_at t r) b) (range_at t r)) (table_with_range r (meet (range_at t r) b) t) t

abbrev pub cut : ℕ → Range → Table → Option Table
cut r b t = cond (empty (meet (range_at t r) b)) None (Some (cut_table r b t))

-- what an answer leaves of a table: the table, or nothing
abbrev pub table_left : Table → Result (Unit {0}) Empty → Option Table
table_left t (Ok x) = Some t
table_left t (Err e) = None

-- the table that is left, at rest if nothing is due; or void where nothing is left
abbrev pub table_or_void : Table → Option Table → Table
table_or_void t None = void_table t
table_or_void t (Some u) = rest_or_open u

-- ---- steps

abbrev pub then : Option Table → (Table → Option Table) → Option Table
then None f = None
then (Some t) f = f t

-- the ranges of a line's registers
abbrev pub ranges_of : Line → Table → Triple
ranges_of l t = record { x = range_at t l.x; y = range_at t l.y; z = range_at t l.z }

-- each register of a line is cut to its result: one that stands in the line more than once gets what its results have in common
abbrev pub cuts : Line → Option Triple → Table → Option Table
cuts l None t = None
cuts l (Some s) t = then (then (cut l.x s.x t) (cut l.y s.y)) (cut l.z s.z)

-- what narrowing answers for a line, from the ranges as they are
abbrev pub results_of : Meaning → Line → Table → Option Triple
results_of m l t = m.narrowed l.operation.kind l.operation.modes (ranges_of l t)

-- the table that is left once a line was narrowed
abbrev pub narrowed_table : Meaning → Line → Table → Option Table
narrowed_table m l t = cuts l (results_of m l t) t

-- no place that is due is without a line
abbrev pub step_of_line : Meaning → Option Line → Table → Table
step_of_line m None t = rest_or_open t
step_of_line m (Some l) t = table_or_void t (narrowed_table m l t)

-- the line at a place stops being due, and is narrowed
abbrev pub step_at : Meaning → Option ℕ → Table → Table
step_at m None t = t
step_at m (Some n) t = step_of_line m (line_at t n) (record t { due = without n t.due })

-- a step takes the line at the lowest due place
abbrev pub step : Meaning → Table → Table
step m t = step_at m (lowest t.due) t

-- ---- events, by the state in which they come

-- register r's range is cut to its limits
abbrev pub table_in_limits : ℕ → Table → Table
table_in_limits r t = table_or_void t (cut r (limits_at t r) t)

-- the line at n is due
abbrev pub table_with_due : ℕ → Table → Table
table_with_due n t = record t { due = with_place n t.due; state = Open }

-- what a table makes of an event in its state
abbrev pub reaction : Meaning → State → Event → Table → Table
reaction m Void (Tightened r) t = t
reaction m Settled (Tightened r) t = table_in_limits r t
reaction m Open (Tightened r) t = table_in_limits r t
reaction m Void Loosened t = table_at_limits t
reaction m Settled Loosened t = table_at_limits t
reaction m Open Loosened t = table_at_limits t
reaction m Void (Entered n) t = t
reaction m Settled (Entered n) t = table_with_due n t
reaction m Open (Entered n) t = table_with_due n t
reaction m Void Struck t = table_at_limits t
reaction m Settled Struck t = table_at_limits t
reaction m Open Struck t = table_at_limits t
reaction m Void Step t = t
reaction m Settled Step t = t
reaction m Open Step t = step m t

-- ---- limit

abbrev pub limit_event : ℕ → Range → Table → Event
limit_event r b t = cond (holds_all (limits_at t r) b) (Tightened r) Loosened

-- register r's limits are replaced, and the table reacts
abbrev pub table_after_limit : Meaning → ℕ → Range → Table → Table
table_after_limit m r b t = reaction m t.state (limit_event r b t) (record t { limits = slice_set t.limits r b })

-- ---- enter

-- a line stands at a place
abbrev pub table_with_line : ℕ → Line → Table → Table
table_with_line n l t = record t { lines = slice_set t.lines n (Some l) }

abbrev pub table_after_enter : Meaning → ℕ → Line → Table → Table
table_after_enter m n l t = reaction m t.state (Entered n) (table_with_line n l t)

-- ---- strike

-- no line stands at a place
abbrev pub table_without_line : ℕ → Table → Table
table_without_line n t = record t { lines = slice_set t.lines n None }

abbrev pub table_after_strike : Meaning → ℕ → Table → Table
table_after_strike m n t = reaction m t.state Struck (table_without_line n t)

-- ---- settle

abbrev pub at_rest : State → Bool
at_rest Settled = true
at_rest Open = false
at_rest Void = true

-- what a settle leaves: the table, and the number of steps made
pub record Settling : Type 0 where
  pub table : Table
  pub steps : ℕ

abbrev pub after_steps : ℕ → Settling → Settling
after_steps n a = record a { steps = n + a.steps }

-- steps until rest, or until the budget is spent
abbrev pub settling : Meaning → ℕ → Table → Settling
settling m zero t = record { table = t; steps = 0 }
settling m (suc b) t = cond (at_rest t.state) record { table = t; steps = 0 } (after_steps 1 (settling m b (reaction m t.state Step t)))

-- ---- a new table: no lines, and everything from the least to the greatest reading

abbrev pub table_of : Range → Table
table_of all = record {
  limits = replicate REGISTERS all;
  ranges = replicate REGISTERS all;
  lines = replicate PLACES None;
  due = none;
  state = Settled;
}

abbrev pub new_table : Meaning → Table
new_table m = table_of (all_readings m)
