-- Histories: lists of calls on one new sheet, the newest first, and what they make of it.
use Rattle.std.specs.Prelude.{◌≡◌, ℕ, Bool, true, false, cond, not, ◌&&◌, List, [], ◌∷◌, is_some, Some, None, Ok, Err, Option, Result, ◌==◌, nat_lt}
use Rattle.catalogue.specs.declared.types.Range.{Range}
use Rattle.catalogue.specs.Meanings.{Meaning, all_readings}
use Rattle.sheet.specs.declared.lines.Line.{Line}
use Rattle.sheet.specs.declared.table.Table.{Table}
use Rattle.sheet.specs.declared.TheConstants.{PLACES, REGISTERS}
use Rattle.sheet.specs.Calls.{limit_asked, limit_table, line_table, settle_table, strike_table}
use Rattle.sheet.specs.Rules.{new_table}

-- a call, with any arguments; limit and partner are given patterns, and enter a line, and look a register
pub data Call : Type 0 where
  limit : ℕ → ℕ → ℕ → Call
  enter : ℕ → Line → Call
  strike : ℕ → Call
  settle : ℕ → Call
  look : ℕ → Call
  partner : ℕ → ℕ → ℕ → Call

-- what the check promises of a line; enter takes no other
abbrev pub passes_check : Line → Bool
passes_check l =
    (nat_lt 0 l.operation.modes.bits && nat_lt l.operation.modes.bits 16)
    && (nat_lt l.x REGISTERS && (nat_lt l.y REGISTERS && nat_lt l.z REGISTERS))

-- the table that a call leaves, carried out or declined
abbrev pub called : Meaning → Call → Table → Table
called m (limit r low high) t = limit_table m r (limit_asked m r low high) t
called m (enter n l) t = cond (passes_check l) (line_table m n l t) t
called m (strike n) t = strike_table m n t
called m (settle b) t = settle_table m b t
called m (look r) t = t
called m (partner n x z) t = t

-- the table that a history leads to
abbrev pub after : Meaning → List Call → Table
after m [] = new_table m
after m (k ∷ h) = called m k (after m h)

-- some list of calls leads to the table
abbrev pub Reached : Meaning → Table → Type 0
Reached m t = (h : List Call) × (t ≡ after m h)

-- ---- limits and lines, from the list alone

-- limits that a call asked for and got at register r, or those before it
abbrev pub limits_got : Bool → Result Range ℕ → Range → Range
limits_got true (Ok b) old = b
limits_got true (Err e) old = old
limits_got false q old = old

-- a register's limits: those of the last limit carried out there, or from the least to the greatest reading
abbrev pub limits_of : Meaning → List Call → ℕ → Range
limits_of m [] r = all_readings m
limits_of m (limit q low high ∷ h) r = limits_got (q == r) (limit_asked m q low high) (limits_of m h r)
limits_of m (enter n l ∷ h) r = limits_of m h r
limits_of m (strike n ∷ h) r = limits_of m h r
limits_of m (settle b ∷ h) r = limits_of m h r
limits_of m (look q ∷ h) r = limits_of m h r
limits_of m (partner n x z ∷ h) r = limits_of m h r

-- the line that stands at a place: from an enter until a strike, both carried out there;
-- an enter is carried out at a place below PLACES where none stands
abbrev pub line_of : List Call → ℕ → Option Line
line_of [] n = None
line_of (enter k l ∷ h) n = cond ((k == n && nat_lt n PLACES) && (passes_check l && not (is_some (line_of h n)))) (Some l) (line_of h n)
line_of (strike k ∷ h) n = cond (k == n) None (line_of h n)
line_of (limit r low high ∷ h) n = line_of h n
line_of (settle b ∷ h) n = line_of h n
line_of (look q ∷ h) n = line_of h n
line_of (partner k x z ∷ h) n = line_of h n
