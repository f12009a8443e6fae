-- What a sheet shows of one register: refused with 9 on a void sheet, then with 1; else the patterns of the range's ends, and whether the sheet is settled.
use Rattle.std.specs.Prelude.{◌≡◌, ◌≢◌, ◌<◌, ◌↔◌, ℕ, Bool, true, cond, Some, Ok, Err, Result}
use Rattle.catalogue.specs.declared.types.Refusal.{Refusal}
use Rattle.catalogue.specs.Meanings.{Meaning}
use Rattle.catalogue.specs.Refusals.{refusal_number}
use Rattle.sheet.specs.declared.table.State.TheVariants.{Settled, Void}
use Rattle.sheet.specs.declared.table.Table.{Table}
use Rattle.sheet.specs.declared.TheConstants.{REGISTERS}
use Rattle.sheet.specs.Calls.{in_patterns, is_settled, is_void, shown_range}
use Rattle.sheet.specs.Rules.{range_at}
use Rattle.promise.specs.declared.Shown.{Shown}

-- low and high pattern, and whether settled
abbrev pub show_answer : Result Shown Refusal → Result (ℕ × ℕ × Bool) ℕ
show_answer (Ok s) = Ok (s.low, s.high, s.settled)
show_answer (Err e) = Err (refusal_number e)

abbrev pub and_settled : Bool → Result (ℕ × ℕ) ℕ → Result (ℕ × ℕ × Bool) ℕ
and_settled b (Ok p) = Ok (p.0, p.1, b)
and_settled b (Err e) = Err e

abbrev pub show_asked : Meaning → ℕ → Table → Result (ℕ × ℕ × Bool) ℕ
show_asked m r t = cond (is_void t.state) (Err 9) (and_settled (is_settled t.state) (in_patterns m (shown_range r t)))

-- what is shown, in words: the patterns read back to the ends of the register's range, on a sheet that is not void, and it says settled exactly if the sheet is
pub record IsShown (m : Meaning) (r : ℕ) (s : Shown) (t : Table) : Type 0 where
  pub register : r < REGISTERS
  pub live : t.state ≢ Void
  pub low : m.reads s.low ≡ Some (range_at t r).low
  pub high : m.reads s.high ≡ Some (range_at t r).high
  pub settled : (s.settled ≡ true) ↔ (t.state ≡ Settled)
