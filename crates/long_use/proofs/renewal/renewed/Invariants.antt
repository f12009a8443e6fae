-- So far: the registers below the counter have their limits, and then the places below it their lines, each place as far from the last.
use Rattle.std.proofs.Common.{◌≡◌, ℕ, ◌<◌, ◌≤◌, ◌-◌, None}
use Rattle.sheet.specs.Rules.{limits_at, line_at}
use Rattle.long_use.proofs.renewal.renewed.Given as goal

abbrev pub invariant-loop-register : goal.invariant-loop-register
invariant-loop-register g l = record {
  given : (r : ℕ) → r < l.register → limits_at l.new.table r ≡ limits_at l.used.table r;
  free : (n : ℕ) → line_at l.new.table n ≡ None;
  catalogue : l.new.catalogue ≡ l.fn.catalogue;
}

abbrev pub invariant-loop-place : goal.invariant-loop-place
invariant-loop-place g l = record {
  given : (r : ℕ) → r < 32 → limits_at l.new.table r ≡ limits_at l.used.table r;
  moved : (n : ℕ) → n < l.place → line_at l.new.table (63 - n) ≡ line_at l.used.table n;
  free : (n : ℕ) → l.place ≤ n → n < 64 → line_at l.new.table (63 - n) ≡ None;
  catalogue : l.new.catalogue ≡ l.fn.catalogue;
}
