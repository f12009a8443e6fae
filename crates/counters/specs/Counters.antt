-- The counter catalogue: readings 0 to 16,777,215, and a pattern is its rank.
use Rattle.std.specs.Prelude.{ℕ, min, cond, ℤ, pos, negsuc, Some, None, Option, nat_le}
use Rattle.catalogue.specs.Meanings.{Meaning, by_ranks}
use Rattle.counters.specs.Stopping.{stopping}

-- the rank that a pattern stands for, if it is at most the end
abbrev pub read_to : ℕ → ℕ → Option ℤ
read_to end p = cond (nat_le p end) (Some (pos p)) None

-- the pattern of a rank; a rank that is no reading is written as the nearest one
abbrev pub write_to : ℕ → ℤ → ℕ
write_to end (pos n) = min n end
write_to end (negsuc n) = 0

-- counters up to any end
abbrev pub counting : ℕ → Meaning
counting end = by_ranks (stopping end) (read_to end) (write_to end)

-- the counter, whose end is 2^24 - 1
abbrev pub counter : Meaning
counter = counting 16777215
