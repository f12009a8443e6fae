-- What each call of a sheet answers, and the table that it leaves. Refusals go by number.
-- Of a call, `.._asked` is what the rules give, or the refusal; `.._answer` puts the code's answer in the same terms; `.._table` is the table that it leaves.
use Rattle.std.specs.Prelude.{◌≡◌, ℕ, Bool, true, false, cond, not, ◌||◌, ℤ, Some, None, Ok, Err, Option, Result, ◌==◌, int_lt, nat_lt}
use Rattle.catalogue.specs.declared.types.Range.{Range}
use Rattle.catalogue.specs.declared.types.Refusal.{Refusal}
use Rattle.catalogue.specs.declared.types.Refusal.TheVariants.{NoLineThere}
use Rattle.catalogue.specs.Meanings.{Meaning}
use Rattle.catalogue.specs.Refusals.{refusal_number}
use Rattle.sheet.specs.declared.lines.CheckedLine.{CheckedLine}
use Rattle.sheet.specs.declared.lines.Line.{Line}
use Rattle.sheet.specs.declared.table.Outcome.{Outcome}
use Rattle.sheet.specs.declared.table.Outcome.TheVariants as outcome
use Rattle.sheet.specs.declared.table.State.{State}
use Rattle.sheet.specs.declared.table.State.TheVariants.{Settled, Open, Void}
use Rattle.sheet.specs.declared.table.Table.{Table}
use Rattle.sheet.specs.declared.TheConstants.{MOST_STEPS}
use Rattle.sheet.specs.Numbers.{no_place, no_register}
use Rattle.sheet.specs.Rules.{table_after_limit, table_after_enter, table_after_strike, Settling, settling, line_at, range_at, limits_at, stands}

-- ---- limit: the register (1), the low pattern, then the high (2), their order (3)

abbrev pub limits_read : Option ℤ → Option ℤ → Result Range ℕ
limits_read None h = Err 2
limits_read (Some l) None = Err 2
limits_read (Some l) (Some h) = cond (int_lt h l) (Err 3) (Ok record { low = l; high = h })

abbrev pub limit_asked : Meaning → ℕ → ℕ → ℕ → Result Range ℕ
limit_asked m r low high = cond (no_register r) (Err 1) (limits_read (m.reads low) (m.reads high))

abbrev pub done : {A : Type 0} → Result A ℕ → Result (Unit {0}) ℕ
done (Ok x) = Ok tt
done (Err e) = Err e

abbrev pub limit_table : Meaning → ℕ → Result Range ℕ → Table → Table
limit_table m r (Ok b) t = table_after_limit m r b t
limit_table m r (Err e) t = t

-- ---- enter: the place (7), whether it is free (6); a refused line is handed back

abbrev pub enter_answer : Result (Unit {0}) (Refusal × CheckedLine) → Result (Unit {0}) (ℕ × CheckedLine)
enter_answer (Ok x) = Ok x
enter_answer (Err e) = Err (refusal_number e.0, e.1)

abbrev pub enter_asked : ℕ → CheckedLine → Table → Result (Unit {0}) (ℕ × CheckedLine)
enter_asked n l t = cond (no_place n) (Err (7, l)) (cond (stands t n) (Err (6, l)) (Ok tt))

abbrev pub line_table : Meaning → ℕ → Line → Table → Table
line_table m n l t = cond (no_place n || stands t n) t (table_after_enter m n l t)

abbrev pub enter_table : Meaning → ℕ → CheckedLine → Table → Table
enter_table m n l t = line_table m n l.line t

-- ---- a drawn line, checked first and then entered: what a caller of both is answered, and leaves

abbrev pub drawn_asked : ℕ → Result Line ℕ → Table → Result (Unit {0}) ℕ
drawn_asked n (Err e) t = Err e
drawn_asked n (Ok l) t = cond (no_place n) (Err 7) (cond (stands t n) (Err 6) (Ok tt))

abbrev pub drawn_table : Meaning → ℕ → Result Line ℕ → Table → Table
drawn_table m n (Err e) t = t
drawn_table m n (Ok l) t = line_table m n l t

-- ---- strike: the place, and whether a line stands there (7)

abbrev pub no_line : ℕ → Table → Bool
no_line n t = no_place n || not (stands t n)

-- a number names a place where a line stands, or it is refused
abbrev pub NamesLine : ℕ → Table → Result ℕ Refusal → Type 0
NamesLine n t (Ok p) = (p ≡ n) × (no_line n t ≡ false)
NamesLine n t (Err e) = (e ≡ NoLineThere) × (no_line n t ≡ true)

abbrev pub strike_asked : ℕ → Table → Result (Unit {0}) ℕ
strike_asked n t = cond (no_line n t) (Err 7) (Ok tt)

abbrev pub strike_table : Meaning → ℕ → Table → Table
strike_table m n t = cond (no_line n t) t (table_after_strike m n t)

-- ---- settle: the budget (8)

-- outcomes go by number: 0 settled, 1 stopped, 2 void
abbrev pub outcome_number : Outcome → ℕ
outcome_number outcome.Settled = 0
outcome_number outcome.Stopped = 1
outcome_number outcome.Void = 2

-- how a settle that leaves a state ended
abbrev pub outcome_of : State → ℕ
outcome_of Settled = 0
outcome_of Open = 1
outcome_of Void = 2

-- how steps ended, and how many were made
abbrev pub run_answer : Outcome × ℕ → ℕ × ℕ
run_answer p = (outcome_number p.0, p.1)

abbrev pub run_asked : Settling → ℕ × ℕ
run_asked a = (outcome_of a.table.state, a.steps)

abbrev pub settle_answer : Result (Outcome × ℕ) Refusal → Result (ℕ × ℕ) ℕ
settle_answer (Ok p) = Ok (run_answer p)
settle_answer (Err e) = Err (refusal_number e)

abbrev pub bad_budget : ℕ → Bool
bad_budget b = b == 0 || nat_lt MOST_STEPS b

abbrev pub settle_asked : Meaning → ℕ → Table → Result (ℕ × ℕ) ℕ
settle_asked m b t = cond (bad_budget b) (Err 8) (Ok (run_asked (settling m b t)))

abbrev pub settle_table : Meaning → ℕ → Table → Table
settle_table m b t = cond (bad_budget b) t (settling m b t).table

-- ---- look: whether the sheet is void (9) when it is taken, then the register (1)

abbrev pub is_void : State → Bool
is_void Settled = false
is_void Open = false
is_void Void = true

abbrev pub is_settled : State → Bool
is_settled Settled = true
is_settled Open = false
is_settled Void = false

-- a look is refused with 9 on a void sheet, and has a property otherwise
abbrev pub look_answer : {A : Type 0} → Result A Refusal → (A → Type 0) → State → Type 0
look_answer (Ok l) P s = P l × (is_void s ≡ false)
look_answer (Err e) P s = (refusal_number e ≡ 9) × (is_void s ≡ true)

abbrev pub shown_range : ℕ → Table → Result Range ℕ
shown_range r t = cond (no_register r) (Err 1) (Ok (range_at t r))

-- a range by the patterns of its ends, low and then high
abbrev pub in_patterns : Meaning → Result Range ℕ → Result (ℕ × ℕ) ℕ
in_patterns m (Ok a) = Ok (m.writes a.low, m.writes a.high)
in_patterns m (Err e) = Err e

-- ---- partner: the place, and whether a line stands there (7), the pattern for x, then for z (2), whether the sheet is void (9)

-- two patterns, as ranks
abbrev pub ranks_read : Option ℤ → Option ℤ → Result (ℤ × ℤ) ℕ
ranks_read None z = Err 2
ranks_read (Some x) None = Err 2
ranks_read (Some x) (Some z) = Ok (x, z)

-- the y that the catalogue names for the line, in y's shown range, as a pattern
abbrev pub pattern_or_none : Meaning → Option ℤ → Option ℕ
pattern_or_none m None = None
pattern_or_none m (Some y) = Some (m.writes y)

abbrev pub partner_named : Meaning → Line → ℤ × ℤ → Table → Option ℤ
partner_named m l p t = m.partner l.operation.kind l.operation.modes p.0 p.1 (range_at t l.y)

abbrev pub partner_of : Meaning → Option Line → Result (ℤ × ℤ) ℕ → Table → Result (Option ℕ) ℕ
partner_of m None p t = Err 7
partner_of m (Some l) (Err e) t = Err e
partner_of m (Some l) (Ok p) t = cond (is_void t.state) (Err 9) (Ok (pattern_or_none m (partner_named m l p t)))

abbrev pub partner_asked : Meaning → ℕ → ℕ → ℕ → Table → Result (Option ℕ) ℕ
partner_asked m n x z t = cond (no_line n t) (Err 7) (partner_of m (line_at t n) (ranks_read (m.reads x) (m.reads z)) t)

-- ---- read-back: a register's limits (1), on a void sheet too, and the line at a place or none (7)

abbrev pub limits_asked : ℕ → Table → Result Range ℕ
limits_asked r t = cond (no_register r) (Err 1) (Ok (limits_at t r))

abbrev pub line_asked : ℕ → Table → Result (Option Line) ℕ
line_asked n t = cond (no_place n) (Err 7) (Ok (line_at t n))
