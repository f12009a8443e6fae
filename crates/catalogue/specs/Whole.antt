-- When x and y keep all of their ranges: two tests that spare a narrowing its searches.
use Rattle.std.specs.Prelude.{Bool, ◌&&◌, int_le}
use Rattle.catalogue.specs.declared.types.Kind.{Kind}
use Rattle.catalogue.specs.declared.types.Modes.{Modes}
use Rattle.catalogue.specs.declared.types.Range.{Range}
use Rattle.catalogue.specs.declared.types.Span.{Span}
use Rattle.catalogue.specs.Narrowing.{y_for_least, y_for_greatest}
use Rattle.catalogue.specs.Operations.{Arith, span_of}

-- z's range holds every result (`holds_all`); or, for both ends of x's range, the results with the end of y's that suits it best reach into z's range
abbrev pub span_at_low : Arith → Kind → Modes → Range → Range → Span
span_at_low a k s x y = span_of a k s x.low (y_for_greatest k y)

abbrev pub span_at_high : Arith → Kind → Modes → Range → Range → Span
span_at_high a k s x y = span_of a k s x.high (y_for_least k y)

abbrev pub reaches_into : Span → Range → Bool
reaches_into r z = int_le z.low r.greatest && int_le r.least z.high
