-- `span_of`, kind by kind: the ranks of an exact sum are its results, mode by mode (Signs), and no mode rounds a peak (Spans).
use Rattle.std.proofs.Common.{◌≡◌, ◌∙◌, w32, SFits, rules}
use Rattle.std.proofs.lemmas.Int.{to_z-of_z}
use Rattle.std.specs.Int.{int_max}
use Rattle.catalogue.specs.declared.types.Kind.TheVariants.{Sum, Difference}
use Rattle.binary32.specs.Signs.{rank_rounds}
use Rattle.binary32.proofs.Spans.{least_is, greatest_is, peak_least, peak_greatest}
use Rattle.binary32.proofs.sums.span_of.Goals as goal

pub returns-in-Sum : goal.returns-in-Sum
returns-in-Sum c =
    let r = rank_rounds _ _ c.add.ensures in
    record {
      least = c.span.ensures.least ∙ least_is c.args.operation.kind Sum c.args.operation.modes c.args.x c.args.y _ c.in-Sum.is r;
      greatest = c.span.ensures.greatest ∙ greatest_is c.args.operation.kind Sum c.args.operation.modes c.args.x c.args.y _ c.in-Sum.is r;
    }

pub returns-in-Difference : goal.returns-in-Difference
returns-in-Difference c =
    let r = rank_rounds _ _ c.sub.ensures in
    record {
      least = c.span-in-Difference.ensures.least ∙ least_is c.args.operation.kind Difference c.args.operation.modes c.args.x c.args.y _ c.in-Difference.is r;
      greatest = c.span-in-Difference.ensures.greatest ∙ greatest_is c.args.operation.kind Difference c.args.operation.modes c.args.x c.args.y _ c.in-Difference.is r;
    }

pub returns-in-Peak : goal.returns-in-Peak
returns-in-Peak c =
    let m : SFits w32 c.max.result = search rules in
    let u : SFits w32 c.rank.result = search rules in
    let v : SFits w32 c.rank-in-Peak.result = search rules in
    let e : c.max.result ≡ int_max c.args.x c.args.y = rw (← c.rank.ensures, ← c.rank-in-Peak.ensures) (simp to_z-of_z at c.max.ensures.value) in
    record {
      least = simp to_z-of_z at c.of.ensures.least ∙ e ∙ peak_least c.args.operation.kind c.args.operation.modes c.args.x c.args.y c.in-Peak.is;
      greatest = simp to_z-of_z at c.of.ensures.greatest ∙ e ∙ peak_greatest c.args.operation.kind c.args.operation.modes c.args.x c.args.y c.in-Peak.is;
    }
