-- `Scale::span`: the one result is the least and the greatest, as modes have no effect (Stops).
use Rattle.std.proofs.Common.{w32, SFits, rules}
use Rattle.std.proofs.lemmas.Int.{to_z-of_z}
use Rattle.counters.specs.Stops.{span_alike}
use Rattle.counters.proofs.stopping.Scale.span.Goals as goal

pub returns : goal.returns
returns c =
    let r : SFits w32 c.result.result = search rules in
    let x : SFits w32 c.args.x = c.ranges.x in
    let y : SFits w32 c.args.y = c.ranges.y in
    span_alike c.args.self.end c.args.operation.kind _ c.args.x c.args.y _ _
    (simp to_z-of_z at c.of.ensures.least) (simp to_z-of_z at c.of.ensures.greatest) (simp to_z-of_z at c.result.ensures)
