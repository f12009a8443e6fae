-- A partner: some y of a range that makes an allowed triple with x and z.
use Rattle.std.specs.Prelude.{◌≡◌, Bool, true, cond, ◌&&◌, ℤ, Some, None, Option, ◌≢◌}
use Rattle.std.specs.Option.{option_or}
use Rattle.catalogue.specs.declared.types.Kind.{Kind}
use Rattle.catalogue.specs.declared.types.Mode.{Mode}
use Rattle.catalogue.specs.declared.types.Mode.TheVariants.{Nearest, Up, Down, TowardZero}
use Rattle.catalogue.specs.declared.types.Modes.{Modes}
use Rattle.catalogue.specs.declared.types.Operand.TheVariants.{Y}
use Rattle.catalogue.specs.declared.types.Asks.{Asks}
use Rattle.catalogue.specs.declared.types.Asks.TheVariants.{AtLeast, AtMost}
use Rattle.catalogue.specs.declared.types.Question.{Question}
use Rattle.catalogue.specs.declared.types.Range.{Range}
use Rattle.catalogue.specs.Modes.{has_mode, only}
use Rattle.catalogue.specs.Ranges.{Holds, holds, unless_empty, meet}
use Rattle.catalogue.specs.Operations.{Arith, readings, equal, falls_in_y, span_of}
use Rattle.catalogue.specs.Search.{edge}

-- in words: some rank of the range with the property, or none exactly if there is none
abbrev pub SomeOf : Range → (ℤ → Bool) → Option ℤ → Type 0
SomeOf r p None = (v : ℤ) → Holds r v → p v ≢ true
SomeOf r p (Some v) = Holds r v × (p v ≡ true)

-- which side of z results reach as y grows
abbrev pub toward_z : Kind → Asks
toward_z k = cond (falls_in_y k) AtMost AtLeast

-- the question whose first rank is the lowest y that can make z under one mode
abbrev pub first_y : Kind → Mode → ℤ → ℤ → Question
first_y k m x z = record { operation = record { kind = k; modes = only m }; operand = Y; other = x; asks = toward_z k; bound = z }

-- the rank found, if its result is z
abbrev pub if_met : Arith → Kind → Mode → ℤ → ℤ → Option ℤ → Option ℤ
if_met a k m x z None = None
if_met a k m x z (Some v) = cond (equal (span_of a k (only m) x v).least z) (Some v) None

-- the first y of a range whose result under one mode is z, if the set has that mode
abbrev pub partner_by : Arith → Kind → Modes → ℤ → ℤ → Range → Mode → Option ℤ
partner_by a k s x z y m = cond (has_mode s m) (if_met a k m x z (edge a (first_y k m x z) y)) None

-- in a range of readings: the first that is found, in the order nearest, up, down, toward zero
abbrev pub partner_in : Arith → Kind → Modes → ℤ → ℤ → Option Range → Option ℤ
partner_in a k s x z None = None
partner_in a k s x z (Some y) =
    option_or (partner_by a k s x z y Nearest)
    (option_or (partner_by a k s x z y Up) (option_or (partner_by a k s x z y Down) (partner_by a k s x z y TowardZero)))

-- for readings x and z, and any range; no other x and z have a partner
abbrev pub partnered : Arith → Kind → Modes → ℤ → ℤ → Range → Option ℤ
partnered a k s x z y =
    cond (holds (readings a) x && holds (readings a) z) (partner_in a k s x z (unless_empty (meet (readings a) y))) None
