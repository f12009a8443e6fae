-- The promise about long use: what a sheet shows, by its limits and its lines, after every history of calls.
use Rattle.std.specs.Prelude.{◌≡◌, ◌≢◌, ℕ, ◌<◌, true, false, ◌⊎◌, List, ◌∷◌, ◌++◌, length, map, ℤ, Some, None, Option}
use Rattle.catalogue.specs.declared.types.Range.{Range}
use Rattle.catalogue.specs.declared.types.Triple.{Triple}
use Rattle.catalogue.specs.Meanings.{Meaning, Laws, all_readings}
use Rattle.catalogue.specs.Ranges.{Holds, Within, Proper}
use Rattle.sheet.specs.declared.lines.Line.{Line}
use Rattle.sheet.specs.declared.table.State.TheVariants.{Settled, Open, Void}
use Rattle.sheet.specs.declared.table.Table.{Table}
use Rattle.sheet.specs.declared.TheConstants.{PLACES, REGISTERS}
use Rattle.promise.specs.Histories.{Call, settle, strike, enter, after, declines, limits_of, line_of, passes_check}
use Rattle.sheet.specs.Calls.{no_line}
use Rattle.sheet.specs.Places.{has}
use Rattle.sheet.specs.Rules.{at_rest, limits_at, line_at, narrowed_table, range_at, step}
use Rattle.sheet.specs.Words.{DueExactly, gets}

-- ---- limits, lines, sets of ranges, and assignments

-- one range for each register
abbrev pub Ranges : Type 0
Ranges = ℕ → Range

-- one reading for each register
abbrev pub Assignment : Type 0
Assignment = ℕ → ℤ

-- the line at each place, or none
abbrev pub Lines : Type 0
Lines = ℕ → Option Line

-- a line stands, at some place
pub record HasLine (lines : Lines) (l : Line) : Type 0 where
  pub place : ℕ
  pub here : lines place ≡ Some l

-- the ranges that a line is given
abbrev pub given_to : Line → Ranges → Triple
given_to l σ = record { x = σ l.x; y = σ l.y; z = σ l.z }

-- a step of the line would leave every range unchanged, and make nothing void
pub record Unchanged (m : Meaning) (l : Line) (σ : Ranges) : Type 0 where
  pub results : Triple
  pub narrowed : m.narrowed l.operation.kind l.operation.modes (given_to l σ) ≡ Some results
  pub same : (q : ℕ) → q < REGISTERS → gets l results q (σ q) ≡ σ q

-- a consistent set: ranges of readings, which a step of any line would leave unchanged
pub record Consistent (m : Meaning) (lines : Lines) (σ : Ranges) : Type 0 where
  pub proper : (r : ℕ) → r < REGISTERS → Proper (σ r)
  pub readings : (r : ℕ) → r < REGISTERS → Within (σ r) (all_readings m)
  pub unchanged : (l : Line) → HasLine lines l → Unchanged m l σ

-- each range lies within that of another set
abbrev pub Inside : Ranges → Ranges → Type 0
Inside σ τ = (r : ℕ) → r < REGISTERS → Within (σ r) (τ r)

-- an assignment of readings that keeps all limits and all lines
pub record Keeps (m : Meaning) (limits : Ranges) (lines : Lines) (v : Assignment) : Type 0 where
  pub readings : (r : ℕ) → r < REGISTERS → Holds (all_readings m) (v r)
  pub limits_kept : (r : ℕ) → r < REGISTERS → Holds (limits r) (v r)
  pub lines_kept : (l : Line) → HasLine lines l → m.allowed l.operation.kind l.operation.modes (v l.x) (v l.y) (v l.z) ≡ true

-- ---- what a table with these limits and these lines shows

pub record Shows (m : Meaning) (limits : Ranges) (lines : Lines) (t : Table) : Type 0 where
  -- its limits are these; and at each place it has the line that stands there, and no other: strike and partner go by it
  pub limits_are : (r : ℕ) → r < REGISTERS → limits_at t r ≡ limits r
  pub lines_are : (n : ℕ) → line_at t n ≡ lines n
  pub there : (n : ℕ) (l : Line) → lines n ≡ Some l → no_line n t ≡ false
  pub free : (n : ℕ) → lines n ≡ None → no_line n t ≡ true
  -- settled, its ranges are a consistent set
  pub consistent : t.state ≡ Settled → Consistent m lines (range_at t)
  -- settled or open, they lie within its limits and hold every consistent set that does: settled, they are the greatest such set
  pub in_limits : t.state ≢ Void → Inside (range_at t) limits
  pub greatest : t.state ≢ Void → (σ : Ranges) → Consistent m lines σ → Inside σ limits → Inside σ (range_at t)
  -- at rest, it is void exactly when there is no such set
  pub void_none : t.state ≡ Void → (σ : Ranges) → Consistent m lines σ → Inside σ limits → ⊥
  pub none_void : at_rest t.state ≡ true → ((σ : Ranges) → Consistent m lines σ → Inside σ limits → ⊥) → t.state ≡ Void
  -- settled or open, its ranges hold every assignment that keeps limits and lines; void, there is none
  pub holds : t.state ≢ Void → (v : Assignment) → Keeps m limits lines v → (r : ℕ) → r < REGISTERS → Holds (range_at t r) (v r)
  pub void_holds : t.state ≡ Void → (v : Assignment) → Keeps m limits lines v → ⊥
  -- at rest, no line is due; open, some line that stands is
  pub calm : at_rest t.state ≡ true → (n : ℕ) → has t.due n ≡ false
  pub busy : t.state ≡ Open → (n : ℕ) × ((l : Line) × ((lines n ≡ Some l) × (has t.due n ≡ true)))

-- what it shows after a list of calls
abbrev pub ShowsAfter : Meaning → List Call → Table → Type 0
ShowsAfter m h t = Shows m (limits_of m h) (line_of h) t

-- some list of calls leads to the table, and it shows what is promised after that list
abbrev pub ShowsOfSome : Meaning → Table → Type 0
ShowsOfSome m t = (h : List Call) × ((t ≡ after m h) × ShowsAfter m h t)

-- ---- two sheets

-- the same lines stand, at whatever places
pub record SameLines (h k : Lines) : Type 0 where
  pub there : (l : Line) → HasLine h l → HasLine k l
  pub back : (l : Line) → HasLine k l → HasLine h l

abbrev pub SameLimits : Ranges → Ranges → Type 0
SameLimits σ τ = (r : ℕ) → r < REGISTERS → σ r ≡ τ r

-- both void, or both settled with the same range at every register
abbrev pub Alike : Table → Table → Type 0
Alike t u = ((t.state ≡ Void) × (u.state ≡ Void)) ⊎ ((t.state ≡ Settled) × (u.state ≡ Settled) × ((r : ℕ) → r < REGISTERS → range_at t r ≡ range_at u r))

-- two tables at rest that show what is promised of the same limits and lines are alike
abbrev pub SameRest : Meaning → Type 0
SameRest m =
    (a b : Ranges) (c d : Lines) (t u : Table) → Shows m a c t → Shows m b d u
    → at_rest t.state ≡ true → at_rest u.state ≡ true → SameLimits a b → SameLines c d → Alike t u

-- the history leads to a sheet at rest
abbrev pub Rests : Meaning → List Call → Type 0
Rests m h = at_rest (after m h).state ≡ true

-- ---- the promise, over every meaning that keeps the laws

pub record Promise (m : Meaning) : Type 0 where
  pub shows : (h : List Call) → ShowsAfter m h (after m h)
  pub alike : SameRest m

abbrev pub ForEveryCatalogue : Type 0
ForEveryCatalogue = (m : Meaning) → Laws m → Promise m

-- ---- consequences

-- settles with any budgets, after a history
abbrev pub settles : List ℕ → List Call → List Call
settles bs h = map settle bs ++ h

pub record Consequences (m : Meaning) : Type 0 where
  -- two histories with the same limits and lines come to the same rest
  pub same_rest : (h k : List Call) → Rests m h → Rests m k → SameLimits (limits_of m h) (limits_of m k) → SameLines (line_of h) (line_of k) → Alike (after m h) (after m k)
  -- a declined call changes nothing
  pub declined : (h : List Call) (k : Call) → declines m k (after m h) ≡ true → after m (k ∷ h) ≡ after m h
  -- settling by any budgets reaches the same rest
  pub any_budgets : (h : List Call) (bs cs : List ℕ) → Rests m (settles bs h) → Rests m (settles cs h) → Alike (after m (settles bs h)) (after m (settles cs h))
  -- a line struck and entered again, at any free place, then settled: the sheet shows what it showed
  pub struck_and_entered : (h : List Call) (bs : List ℕ) (n k : ℕ) (l : Line) → line_of h n ≡ Some l → k < PLACES → line_of (strike n ∷ h) k ≡ None → Rests m h → Rests m (settles bs (enter k l ∷ (strike n ∷ h))) → Alike (after m h) (after m (settles bs (enter k l ∷ (strike n ∷ h))))
  -- a line leaves ranges unchanged, in the sense above, exactly if its step on a table with these ranges changes none of them
  pub unchanged_step : (l : Line) (t : Table) → passes_check l ≡ true → ((r : ℕ) → r < REGISTERS → Proper (range_at t r)) → Unchanged m l (range_at t) → narrowed_table m l t ≡ Some t
  pub step_unchanged : (l : Line) (t u : Table) → passes_check l ≡ true → length t.ranges ≡ REGISTERS → narrowed_table m l t ≡ Some u → ((r : ℕ) → r < REGISTERS → range_at u r ≡ range_at t r) → Unchanged m l (range_at t)
  -- a step of an open sheet that does not make it void widens no range; and if it changes none, it takes one line from those that are due, and adds none
  pub narrower : (h : List Call) → (after m h).state ≡ Open → (step m (after m h)).state ≢ Void → Inside (range_at (step m (after m h))) (range_at (after m h))
  pub fewer : (h : List Call) → (after m h).state ≡ Open → (step m (after m h)).state ≢ Void → ((r : ℕ) → r < REGISTERS → range_at (step m (after m h)) r ≡ range_at (after m h) r) → (n : ℕ) × ((has (after m h).due n ≡ true) × DueExactly (step m (after m h)) (λ k. (has (after m h).due k ≡ true) × (k ≢ n)))
