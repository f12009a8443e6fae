-- `narrow_readings` may leave out the searches where x and y keep all of their ranges (Kept).
use Rattle.std.proofs.Common.{w32, FitsSigned, subst, rules}
use Rattle.catalogue.specs.Given.{triple_of}
use Rattle.catalogue.specs.Ranges.{Proper}
use Rattle.catalogue.specs.declared.types.Range.{Range}
use Rattle.catalogue.proofs.Kept.{all_by_results, all_by_spans}
use Rattle.catalogue.proofs.constraint.Constraint.narrow_readings.Goals as goal

-- the ends of a range are numbers of 32 bits
abbrev Fits : Range → Type 0
Fits r = FitsSigned w32 r.low × FitsSigned w32 r.high

pub returns-then-holds_all : goal.returns-then-holds_all
returns-then-holds_all g c =
    let x = c.range.ensures in
    let y = c.range-then-holds_all.ensures in
    let z = c.range-z.ensures.value in
    let fx : Fits c.range.result = (search rules, search rules) in
    let fy : Fits c.range-then-holds_all.result = (search rules, search rules) in
    all_by_results (g.A.Arithmetic.arith c.args.self.now.arithmetic.now) (g.met.A.Arithmetic.laws c.args.self.now.arithmetic.now) c.args.self.now.operation.modes c.args.self.now.operation.kind
    (triple_of c.args.given) (subst Proper x.value x.proper) (subst Proper y.value y.proper) (subst Fits x.value fx) (subst Fits y.value fy)
    c.results-results.result c.results-results.ensures c.whole.result (rw (x.value, y.value, z) at c.whole.ensures) (rw z at c.if-holds_all.ensures)

pub returns-then-reaches_into-2 : goal.returns-then-reaches_into-2
returns-then-reaches_into-2 g c =
    let x = c.range-then-reaches_into-2.ensures in
    let y = c.range-then-reaches_into-2-2.ensures in
    let z = c.range-z.ensures.value in
    let fx : Fits c.range-then-reaches_into-2.result = (search rules, search rules) in
    let fy : Fits c.range-then-reaches_into-2-2.result = (search rules, search rules) in
    all_by_spans (g.A.Arithmetic.arith c.args.self.now.arithmetic.now) (g.met.A.Arithmetic.laws c.args.self.now.arithmetic.now) c.args.self.now.operation.modes c.args.self.now.operation.kind
    (triple_of c.args.given) (subst Proper x.value x.proper) (subst Proper y.value y.proper) (subst Fits x.value fx) (subst Fits y.value fy)
    c.results-results.result c.results-results.ensures c.whole-then-reaches_into-2.result (rw (x.value, y.value, z) at c.whole-then-reaches_into-2.ensures)
    c.span_at_low.result c.span_at_high.result c.span_at_low.ensures c.span_at_high.ensures (rw z at c.if-reaches_into.ensures) (rw z at c.if-reaches_into-2.ensures)
