-- Narrowing in words: which ranks of three given ranges are kept.
use Rattle.std.specs.Prelude.{◌≡◌, cond, ℤ, ◌≤ℤ◌, Some, None, Option}
use Rattle.catalogue.specs.declared.types.Kind.{Kind}
use Rattle.catalogue.specs.declared.types.Modes.{Modes}
use Rattle.catalogue.specs.declared.types.Range.{Range}
use Rattle.catalogue.specs.declared.types.Triple.{Triple}
use Rattle.catalogue.specs.Ranges.{Holds, Proper, meet}
use Rattle.catalogue.specs.Operations.{Arith, readings, least_result, greatest_result, falls_in_y}

-- the rank of y's range that makes results least, and the one that makes them greatest
abbrev pub y_for_least : Kind → Range → ℤ
y_for_least k y = cond (falls_in_y k) y.high y.low

abbrev pub y_for_greatest : Kind → Range → ℤ
y_for_greatest k y = cond (falls_in_y k) y.low y.high

module _ (a : Arith) (k : Kind) (s : Modes) (t : Triple) where
  -- z keeps ranks from the least result of the operands' ranges to the greatest
  abbrev pub KeepsZ : ℤ → Type 0
  KeepsZ v =
      Holds t.z v
      × (least_result a k s t.x.low (y_for_least k t.y) ≤ℤ v)
      × (v ≤ℤ greatest_result a k s t.x.high (y_for_greatest k t.y))

  -- x keeps ranks whose greatest result reaches z's low, and whose least result does not pass z's high
  abbrev pub KeepsX : ℤ → Type 0
  KeepsX v =
      Holds t.x v
      × (t.z.low ≤ℤ greatest_result a k s v (y_for_greatest k t.y))
      × (least_result a k s v (y_for_least k t.y) ≤ℤ t.z.high)

  -- y likewise, with x's range in the place of y's; the operands keep their order
  abbrev pub KeepsY : ℤ → Type 0
  KeepsY v =
      Holds t.y v
      × (t.z.low ≤ℤ greatest_result a k s t.x.high v)
      × (least_result a k s t.x.low v ≤ℤ t.z.high)

-- a range holds exactly the ranks that a rule keeps, and at least one
pub record Exactly (P : ℤ → Type 0) (r : Range) : Type 0 where
  pub some : Proper r
  pub only : (v : ℤ) → Holds r v → P v
  pub all : (v : ℤ) → P v → Holds r v

-- what the three rules make of ranges of readings: exactly what each keeps, or "none" where one of them keeps nothing
abbrev pub NarrowsReadings : Arith → Kind → Modes → Triple → Option Triple → Type 0
NarrowsReadings a k s t None = (x y z : ℤ) → KeepsX a k s t x → KeepsY a k s t y → KeepsZ a k s t z → ⊥
NarrowsReadings a k s t (Some r) = Exactly (KeepsX a k s t) r.x × Exactly (KeepsY a k s t) r.y × Exactly (KeepsZ a k s t) r.z

-- the given ranges, cut to the readings
abbrev pub cut_to_readings : Arith → Triple → Triple
cut_to_readings a t = record { x = meet (readings a) t.x; y = meet (readings a) t.y; z = meet (readings a) t.z }

-- all three answers come from the same three given ranges, which are first cut to the readings
abbrev pub Narrows : Arith → Kind → Modes → Triple → Option Triple → Type 0
Narrows a k s t r = NarrowsReadings a k s (cut_to_readings a t) r

-- an answer that the rules allow, and the only one
pub record Narrowing (a : Arith) (k : Kind) (s : Modes) (t : Triple) (r : Option Triple) : Type 0 where
  pub keeps : Narrows a k s t r
  pub sole : (u : Option Triple) → Narrows a k s t u → u ≡ r
