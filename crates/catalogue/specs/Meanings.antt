-- What a catalogue means, and the laws that it keeps.
use Rattle.std.specs.Prelude.{◌≡◌, ℕ, Bool, true, ℤ, ◌≤ℤ◌, Some, None, Ok, Err, Option, Result}
use Rattle.catalogue.specs.declared.types.Kind.{Kind}
use Rattle.catalogue.specs.declared.types.Modes.{Modes}
use Rattle.catalogue.specs.declared.types.Range.{Range}
use Rattle.catalogue.specs.declared.types.Triple.{Triple}
use Rattle.catalogue.specs.Ranges.{Holds, Holds3, HoldsO, Within3, WithinO}
use Rattle.catalogue.specs.Operations.{Arith, allowed}
use Rattle.catalogue.specs.Search.{narrowed}
use Rattle.catalogue.specs.Partners.{SomeOf, partnered}

-- `partner` is the catalogue's own choice of a y, and `writes` its choice of a pattern: the laws say what they may be
pub record Meaning : Type 0 where
  pub least : ℤ
  pub greatest : ℤ
  pub reads : ℕ → Option ℤ
  pub writes : ℤ → ℕ
  pub allowed : Kind → Modes → ℤ → ℤ → ℤ → Bool
  pub narrowed : Kind → Modes → Triple → Option Triple
  pub partner : Kind → Modes → ℤ → ℤ → Range → Option ℤ

-- every rank from the least to the greatest is a reading
abbrev pub all_readings : Meaning → Range
all_readings m = record { low = m.least; high = m.greatest }

-- what every catalogue keeps
pub record Laws (m : Meaning) : Type 0 where
  -- there is a reading; a pattern's rank is one; and each reading is written as a pattern that reads back to it
  pub ends : m.least ≤ℤ m.greatest
  pub reads : (p : ℕ) (v : ℤ) → m.reads p ≡ Some v → Holds (all_readings m) v
  pub writes : (v : ℤ) → Holds (all_readings m) v → m.reads (m.writes v) ≡ Some v
  -- narrowed ranges lie within the given ones
  pub inside : (k : Kind) (s : Modes) (t : Triple) → WithinO (m.narrowed k s t) (Some t)
  -- an allowed triple in the given ranges is in the narrowed ones, and "none" holds none
  pub kept : (k : Kind) (s : Modes) (t : Triple) (x y z : ℤ) → m.allowed k s x y z ≡ true → Holds3 t x y z → HoldsO (m.narrowed k s t) x y z
  -- smaller given ranges have narrowed ranges inside the larger ones' narrowed ranges
  pub steady : (k : Kind) (s : Modes) (t u : Triple) → Within3 t u → WithinO (m.narrowed k s t) (m.narrowed k s u)
  -- a partner is some y of the range that makes an allowed triple, none exactly if there is none
  pub partner : (k : Kind) (s : Modes) (x z : ℤ) (y : Range) → SomeOf y (λ v. m.allowed k s x v z) (m.partner k s x z y)

-- a pattern's rank, or refusal 2
abbrev pub rank_or_2 : Option ℤ → Result ℤ ℕ
rank_or_2 None = Err 2
rank_or_2 (Some v) = Ok v

-- the meaning of a catalogue that narrows an arithmetic by the one narrowing text
abbrev pub by_ranks : Arith → (ℕ → Option ℤ) → (ℤ → ℕ) → Meaning
by_ranks a reads writes = record {
  least = a.least;
  greatest = a.greatest;
  reads = reads;
  writes = writes;
  allowed = allowed a;
  narrowed = narrowed a;
  partner = partnered a;
}

-- what such a catalogue owes of its patterns
pub record Patterns (a : Arith) (read : ℕ → Option ℤ) (write : ℤ → ℕ) : Type 0 where
  pub reads : (p : ℕ) (v : ℤ) → read p ≡ Some v → (a.least ≤ℤ v) × (v ≤ℤ a.greatest)
  pub writes : (v : ℤ) → (a.least ≤ℤ v) × (v ≤ℤ a.greatest) → read (write v) ≡ Some v
