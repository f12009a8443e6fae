-- What a step, and each call that changes a sheet, makes of it in words, and what partner answers: its limits, ranges, lines, due places and state before (t) and after (u).
use Rattle.std.specs.Prelude.{◌≡◌, ◌≢◌, ℕ, zero, suc, ◌<◌, ◌≤◌, Bool, true, false, cond, ◌⊎◌, ◌↔◌, ℤ, Some, None, Ok, Err, Option, Result, ◌==◌, slice_set}
use Rattle.catalogue.specs.declared.types.Range.{Range}
use Rattle.catalogue.specs.declared.types.Refusal.{Refusal}
use Rattle.catalogue.specs.declared.types.Triple.{Triple}
use Rattle.catalogue.specs.Meanings.{Meaning}
use Rattle.catalogue.specs.Ranges.{Holds, Proper, holds_all, meet}
use Rattle.sheet.specs.declared.lines.Line.{Line}
use Rattle.sheet.specs.declared.table.Outcome.{Outcome}
use Rattle.sheet.specs.declared.table.Outcome.TheVariants as outcome
use Rattle.sheet.specs.declared.table.State.TheVariants.{Settled, Open, Void}
use Rattle.sheet.specs.declared.table.Table.{Table}
use Rattle.sheet.specs.declared.TheConstants.{PLACES, REGISTERS}
use Rattle.sheet.specs.Places.{Lowest, has, is_none}
use Rattle.sheet.specs.Rules.{limits_at, line_at, range_at, stands}

-- three ranks make an allowed triple of a line
abbrev pub Allowed : Meaning → Line → ℤ → ℤ → ℤ → Type 0
Allowed m l x y z = m.allowed l.operation.kind l.operation.modes x y z ≡ true

-- a line names a register
abbrev pub Names : Line → ℕ → Type 0
Names l r = (l.x ≡ r) ⊎ ((l.y ≡ r) ⊎ (l.z ≡ r))

-- at a place stands a line that names a register whose range has changed
pub record NamesChanged (t u : Table) (place : ℕ) : Type 0 where
  pub line : Line
  pub register : ℕ
  pub there : line_at u place ≡ Some line
  pub names : Names line register
  pub changed : range_at u register ≢ range_at t register

-- just these places are due
abbrev pub DueExactly : Table → (ℕ → Type 0) → Type 0
DueExactly u P = (k : ℕ) → k < PLACES → (has u.due k ≡ true) ↔ P k

-- settled if no line is due, and open if one is
abbrev pub SettledOrOpen : Table → Type 0
SettledOrOpen u = u.state ≡ cond (is_none u.due) Settled Open

-- void, and then no line is due
pub record IsVoid (u : Table) : Type 0 where
  pub state : u.state ≡ Void
  pub due : (k : ℕ) → has u.due k ≡ false

-- every range is its register's limits, and just the lines that stand are due
pub record AtLimits (u : Table) : Type 0 where
  pub ranges : u.ranges ≡ u.limits
  pub due : DueExactly u (λ k. stands u k ≡ true)
  pub state : SettledOrOpen u

-- ---- a step

-- what a register gets: what its range and all its results in a line have in common. By the catalogue's law `inside` each
-- result lies within the range, so this is the result itself, or what its two or three results have in common
abbrev pub common_if : Bool → Range → Range → Range
common_if true a b = meet a b
common_if false a b = b

abbrev pub gets : Line → Triple → ℕ → Range → Range
gets l s q old = common_if (l.z == q) s.z (common_if (l.y == q) s.y (common_if (l.x == q) s.x old))

-- narrowing answers none, or the range of a register that the line names has nothing in common with its results
abbrev pub NothingLeft : Line → Option Triple → Table → Type 0
NothingLeft l None t = Unit {0}
NothingLeft l (Some s) t = (r : ℕ) × (Names l r × (Proper (gets l s r (range_at t r)) → ⊥))

-- a step that leaves something: each register gets what it gets; and due are just the lines that were due, but the one
-- taken, and the lines that name a register whose range has changed
pub record Narrows (l : Line) (s : Triple) (place : ℕ) (t u : Table) : Type 0 where
  pub ranges : (r : ℕ) → r < REGISTERS → range_at u r ≡ gets l s r (range_at t r)
  pub due : DueExactly u (λ k. ((has t.due k ≡ true) × (k ≢ place)) ⊎ NamesChanged t u k)
  pub state : SettledOrOpen u

-- what comes of the results of narrowing
abbrev pub Takes : Line → Option Triple → ℕ → Table → Table → Type 0
Takes l o place t u = (NothingLeft l o t × IsVoid u) ⊎ ((s : Triple) × ((o ≡ Some s) × ((NothingLeft l o t → ⊥) × Narrows l s place t u)))

-- a line's three ranges, as they are; said here once more, so that the words go by no definition of the rules for it
abbrev pub ranges_as_they_are : Line → Table → Triple
ranges_as_they_are l t = record { x = range_at t l.x; y = range_at t l.y; z = range_at t l.z }

-- a step takes the line at the lowest due place, and narrows it from the ranges as they are; limits and lines stay
pub record IsStep (m : Meaning) (t u : Table) : Type 0 where
  pub open_before : t.state ≡ Open
  pub place : ℕ
  pub line : Line
  pub lowest : Lowest t.due (Some place)
  pub there : line_at t place ≡ Some line
  pub limits : u.limits ≡ t.limits
  pub lines : u.lines ≡ t.lines
  pub takes : Takes line (m.narrowed line.operation.kind line.operation.modes (ranges_as_they_are line t)) place t u

-- so many steps, one after another
abbrev pub AreSteps : Meaning → ℕ → Table → Table → Type 0
AreSteps m zero t u = u ≡ t
AreSteps m (suc k) t u = (v : Table) × (IsStep m t v × AreSteps m k v u)

-- a settle: so many steps, at most the budget, and just the budget where the table is left open
pub record IsSettle (m : Meaning) (budget steps : ℕ) (t u : Table) : Type 0 where
  pub within : steps ≤ budget
  pub made : AreSteps m steps t u
  pub spent : u.state ≡ Open → steps ≡ budget

-- how a settle ended
abbrev pub Ended : Outcome → Table → Type 0
Ended outcome.Settled u = u.state ≡ Settled
Ended outcome.Stopped u = u.state ≡ Open
Ended outcome.Void u = u.state ≡ Void

-- ---- a limit that is carried out: register r's limits become b

-- b lies inside the old limits: a void table keeps what it has; of another, r's range is cut to b
pub record IsCut (r : ℕ) (b : Range) (t u : Table) : Type 0 where
  pub ranges : (q : ℕ) → q < REGISTERS → range_at u q ≡ common_if (r == q) b (range_at t q)
  pub due : DueExactly u (λ k. (has t.due k ≡ true) ⊎ NamesChanged t u k)
  pub state : SettledOrOpen u

abbrev pub Tightens : ℕ → Range → Table → Table → Type 0
Tightens r b t u =
    ((t.state ≡ Void) × (u.state ≡ Void) × (u.ranges ≡ t.ranges) × (u.due ≡ t.due))
    ⊎ (((t.state ≢ Void) × (Proper (meet (range_at t r) b) → ⊥) × IsVoid u)
    ⊎ ((t.state ≢ Void) × Proper (meet (range_at t r) b) × IsCut r b t u))

pub record IsLimit (r : ℕ) (b : Range) (t u : Table) : Type 0 where
  pub limits : u.limits ≡ slice_set t.limits r b
  pub lines : u.lines ≡ t.lines
  pub inside : holds_all (limits_at t r) b ≡ true → Tightens r b t u
  pub outside : holds_all (limits_at t r) b ≡ false → AtLimits u

-- a limit from one pattern to another: both are read, low is not above high, and the range between them becomes the limits
pub record SetsLimits (m : Meaning) (r low high : ℕ) (t u : Table) : Type 0 where
  pub limits : Range
  pub register : r < REGISTERS
  pub reads_low : m.reads low ≡ Some limits.low
  pub reads_high : m.reads high ≡ Some limits.high
  pub proper : Proper limits
  pub made : IsLimit r limits t u

-- ---- an enter that is carried out: n is a free place, the line l then stands there, and is due unless the table is void

pub record IsEnter (n : ℕ) (l : Line) (t u : Table) : Type 0 where
  pub place : n < PLACES
  pub free : line_at t n ≡ None
  pub limits : u.limits ≡ t.limits
  pub ranges : u.ranges ≡ t.ranges
  pub lines : u.lines ≡ slice_set t.lines n (Some l)
  pub void : t.state ≡ Void → (u.state ≡ Void) × (u.due ≡ t.due)
  pub live : t.state ≢ Void → (u.state ≡ Open) × DueExactly u (λ k. (has t.due k ≡ true) ⊎ (k ≡ n))

-- ---- a strike that is carried out: a line stood at n, none does then, and there is a return to the limits

pub record IsStrike (n : ℕ) (t u : Table) : Type 0 where
  pub there : stands t n ≡ true
  pub limits : u.limits ≡ t.limits
  pub lines : u.lines ≡ slice_set t.lines n None
  pub returns : AtLimits u

-- ---- what partner answers for a line and two readings, on a table that is not void: the pattern of some y of y's shown
-- range that makes an allowed triple, or none, exactly if there is none

abbrev pub IsPartnerAnswer : Meaning → Line → ℤ → ℤ → Table → Result (Option ℕ) Refusal → Type 0
IsPartnerAnswer m l x z t (Ok (Some p)) = (y : ℤ) × (Holds (range_at t l.y) y × (Allowed m l x y z × (p ≡ m.writes y)))
IsPartnerAnswer m l x z t (Ok None) = (y : ℤ) → Holds (range_at t l.y) y → Allowed m l x y z → ⊥
IsPartnerAnswer m l x z t (Err e) = ⊥
