-- Narrowing, computed: each end of a narrowed range is the first rank that passes a question.
use Rattle.std.specs.Prelude.{ℕ, Bool, true, false, cond, ℤ, pos, ◌+ℤ◌, ◌-ℤ◌, Some, None, Option, int_le}
use Rattle.catalogue.specs.declared.types.Kind.{Kind}
use Rattle.catalogue.specs.declared.types.Modes.{Modes}
use Rattle.catalogue.specs.declared.types.Operand.{Operand}
use Rattle.catalogue.specs.declared.types.Operand.TheVariants.{X, Y}
use Rattle.catalogue.specs.declared.types.Asks.{Asks}
use Rattle.catalogue.specs.declared.types.Asks.TheVariants.{AtLeast, AtMost}
use Rattle.catalogue.specs.declared.types.Question.{Question}
use Rattle.catalogue.specs.declared.types.Range.{Range}
use Rattle.catalogue.specs.declared.types.Span.{Span}
use Rattle.catalogue.specs.declared.types.Triple.{Triple}
use Rattle.catalogue.specs.Ranges.{unless_empty, meet, extent, all_three}
use Rattle.catalogue.specs.Operations.{Arith, readings, span_of, falls_in_y}
use Rattle.catalogue.specs.Narrowing.{y_for_least, y_for_greatest}
use Rattle.catalogue.specs.First.{first}

-- the operands, with a rank in the place that is asked about
abbrev pub x_asked : Operand → ℤ → ℤ → ℤ
x_asked X v other = v
x_asked Y v other = other

abbrev pub y_asked : Operand → ℤ → ℤ → ℤ
y_asked X v other = other
y_asked Y v other = v

-- the least and the greatest result with such a rank
abbrev pub asked_span : Arith → Question → ℤ → Span
asked_span a q v = span_of a q.operation.kind q.operation.modes (x_asked q.operand v q.other) (y_asked q.operand v q.other)

-- what is asked of a span: that its greatest result reaches a bound, or that its least does not pass it
abbrev pub meets : Asks → ℤ → Span → Bool
meets AtLeast bound r = int_le bound r.greatest
meets AtMost bound r = int_le r.least bound

-- whether a rank passes a question
unfoldable pub passes : Arith → Question → ℤ → Bool
passes a q v = meets q.asks q.bound (asked_span a q v)

-- whether results fall as the operand asked about grows
abbrev pub falls_in : Operand → Kind → Bool
falls_in X k = false
falls_in Y k = falls_in_y k

-- what asks for large results rises where they do, and what asks for small ones where they fall
abbrev pub rising : Asks → Bool → Bool
rising AtLeast b = cond b false true
rising AtMost b = b

-- whether what passes keeps passing as the rank grows, and not as it falls
abbrev pub rises : Question → Bool
rises q = rising q.asks (falls_in q.operand q.operation.kind)

-- the rank so many above another, or below it
abbrev pub moved : Bool → ℤ → ℕ → ℤ
moved true v k = v +ℤ pos k
moved false v k = v -ℤ pos k

-- where a search begins
abbrev pub origin : Bool → Range → ℤ
origin true r = r.low
origin false r = r.high

-- the rank at the distance that was found
abbrev pub reached : Bool → ℤ → Option ℕ → Option ℤ
reached b f None = None
reached b f (Some k) = Some (moved b f k)

-- the end of what passes in a range: its low end if the question rises, else its high end
unfoldable pub edge : Arith → Question → Range → Option ℤ
unfolding first passes
edge a q r = reached (rises q) (origin (rises q) r) (first (λ k. passes a q (moved (rises q) (origin (rises q) r) k)) (extent r))

-- the range between two ends, unless one is missing or it is empty
abbrev pub between : Option ℤ → Option ℤ → Option Range
between None h = None
between (Some l) None = None
between (Some l) (Some h) = unless_empty (record { low = l; high = h })

-- the greatest result with `other` reaches z's low
abbrev pub reaches : Kind → Modes → Operand → ℤ → Range → Question
reaches k s p other z = record { operation = record { kind = k; modes = s }; operand = p; other = other; asks = AtLeast; bound = z.low }

-- the least result with `other` does not pass z's high
abbrev pub stays_in : Kind → Modes → Operand → ℤ → Range → Question
stays_in k s p other z = record { operation = record { kind = k; modes = s }; operand = p; other = other; asks = AtMost; bound = z.high }

-- what an operand keeps of its range
abbrev pub kept : Arith → Kind → Modes → Operand → Range → ℤ → ℤ → Range → Option Range
kept a k s p r for-least for-greatest z =
    cond (rises (reaches k s p for-greatest z))
    (between (edge a (reaches k s p for-greatest z) r) (edge a (stays_in k s p for-least z) r))
    (between (edge a (stays_in k s p for-least z) r) (edge a (reaches k s p for-greatest z) r))

-- the results that two ranges can have
abbrev pub results : Arith → Kind → Modes → Range → Range → Range
results a k s x y = record {
  low = (span_of a k s x.low (y_for_least k y)).least;
  high = (span_of a k s x.high (y_for_greatest k y)).greatest;
}

-- the given ranges cut to the readings, unless one is empty
abbrev pub cut : Arith → Triple → Option Triple
cut a t = all_three (unless_empty (meet (readings a) t.x)) (unless_empty (meet (readings a) t.y)) (unless_empty (meet (readings a) t.z))

-- what each of three ranges of readings keeps
abbrev pub keeps_x : Arith → Kind → Modes → Triple → Option Range
keeps_x a k s t = kept a k s X t.x (y_for_least k t.y) (y_for_greatest k t.y) t.z

abbrev pub keeps_y : Arith → Kind → Modes → Triple → Option Range
keeps_y a k s t = kept a k s Y t.y t.x.low t.x.high t.z

abbrev pub keeps_z : Arith → Kind → Modes → Triple → Option Range
keeps_z a k s t = unless_empty (meet t.z (results a k s t.x t.y))

-- ranges of readings, narrowed
abbrev pub narrowed_readings : Arith → Kind → Modes → Triple → Option Triple
narrowed_readings a k s t = all_three (keeps_x a k s t) (keeps_y a k s t) (keeps_z a k s t)

abbrev pub narrowed_cut : Arith → Kind → Modes → Option Triple → Option Triple
narrowed_cut a k s None = None
narrowed_cut a k s (Some t) = narrowed_readings a k s t

-- any ranges, narrowed: first cut to the readings
abbrev pub narrowed : Arith → Kind → Modes → Triple → Option Triple
narrowed a k s t = narrowed_cut a k s (cut a t)
