-- `round`: one mode's span is one result (Sets), which is the standard's rounding of the exact one (Spans).
use Rattle.std.proofs.Common.{◌≡◌, sym, ap, ◌∙◌, subst, w32, SFits, to_z, of_z, rules}
use Rattle.std.proofs.lemmas.Int.{to_z-of_z}
use Rattle.catalogue.specs.declared.types.Mode.{Mode}
use Rattle.catalogue.specs.declared.types.Span.{Span}
use Rattle.catalogue.specs.Modes.{only}
use Rattle.catalogue.specs.Operations.{nearest_reading, span_of}
use Rattle.catalogue.proofs.Sets.{only_least}
use Rattle.binary32.specs.Rounding.{Rounds}
use Rattle.binary32.specs.Binary32.{binary32, exact_of, result_of}
use Rattle.binary32.proofs.Spans.{nearest_reads, result_rounds}
use Rattle.binary32.proofs.binary32.round.Goals as goal

pub returns : goal.returns
returns c =
    let x : SFits w32 c.args.x = c.ranges.x in
    let y : SFits w32 c.args.y = c.ranges.y in
    let r : SFits w32 c.span.result.least = search rules in
    let k = c.args.kind in
    let m = c.args.mode in
    let u = nearest_reading binary32 c.args.x in
    let v = nearest_reading binary32 c.args.y in
    let s : c.span.result ≡ span_of binary32 k (only m) c.args.x c.args.y = simp (to_z-of_z, c.only.ensures) at c.span.ensures in
    let e : to_z w32 (of_z w32 c.span.result.least) ≡ result_of k m u v =
    to_z-of_z w32 c.span.result.least r ∙ ap (λ (p : Span). p.least) s ∙ only_least m (λ (n : Mode). result_of k n u v) in
    record { value = e; standard = subst (Rounds m (exact_of k u v)) (sym e) (result_rounds k m u v (nearest_reads c.args.x) (nearest_reads c.args.y)) }
