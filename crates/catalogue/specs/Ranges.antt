-- Ranges of ranks, and the three ranges of a line.
use Rattle.std.specs.Prelude.{ℕ, Bool, cond, ◌&&◌, ◌||◌, ℤ, ◌-ℤ◌, ◌≤ℤ◌, Some, None, Option, int_le, int_lt, unsigned_abs}
use Rattle.std.specs.Int.{int_max, int_min}
use Rattle.catalogue.specs.declared.types.Range.{Range}
use Rattle.catalogue.specs.declared.types.Triple.{Triple}

-- a rank lies in a range
abbrev pub Holds : Range → ℤ → Type 0
Holds r v = (r.low ≤ℤ v) × (v ≤ℤ r.high)

-- the same as a test
abbrev pub holds : Range → ℤ → Bool
holds r v = int_le r.low v && int_le v r.high

-- a range lies within another
abbrev pub Within : Range → Range → Type 0
Within a b = (b.low ≤ℤ a.low) × (a.high ≤ℤ b.high)

-- a range holds all ranks of another: it holds both ends
abbrev pub holds_all : Range → Range → Bool
holds_all a b = int_le a.low b.low && int_le b.high a.high

-- b, which lies within a, is smaller than a
abbrev pub smaller : Range → Range → Bool
smaller b a = int_lt a.low b.low || int_lt b.high a.high

-- a range that has no rank
abbrev pub empty : Range → Bool
empty a = int_lt a.high a.low

-- a range that has a rank
abbrev pub Proper : Range → Type 0
Proper r = r.low ≤ℤ r.high

-- a range, unless it is empty
abbrev pub unless_empty : Range → Option Range
unless_empty r = cond (int_le r.low r.high) (Some r) None

-- what two ranges have in common; it is empty where its low is above its high
abbrev pub meet : Range → Range → Range
meet a b = record { low = int_max a.low b.low; high = int_min a.high b.high }

-- high less low
abbrev pub extent : Range → ℕ
extent r = unsigned_abs (r.high -ℤ r.low)

-- three ranks lie in three ranges
abbrev pub Holds3 : Triple → ℤ → ℤ → ℤ → Type 0
Holds3 t x y z = Holds t.x x × Holds t.y y × Holds t.z z

-- ranks lie in narrowed ranges; "none" holds nothing
abbrev pub HoldsO : Option Triple → ℤ → ℤ → ℤ → Type 0
HoldsO None x y z = ⊥
HoldsO (Some t) x y z = Holds3 t x y z

-- three ranges lie within three others
abbrev pub Within3 : Triple → Triple → Type 0
Within3 a b = Within a.x b.x × Within a.y b.y × Within a.z b.z

-- narrowed ranges lie within others; "none" lies within everything
abbrev pub WithinO : Option Triple → Option Triple → Type 0
WithinO None b = Unit {0}
WithinO (Some a) None = ⊥
WithinO (Some a) (Some b) = Within3 a b

-- three ranges, unless one is missing
abbrev pub all_three : Option Range → Option Range → Option Range → Option Triple
all_three None y z = None
all_three (Some x) None z = None
all_three (Some x) (Some y) None = None
all_three (Some x) (Some y) (Some z) = Some (record { x = x; y = y; z = z })
