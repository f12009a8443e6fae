-- `Scale::result` of a sum: the nearest readings are not below 0, so the end is the only stop.
use Rattle.std.proofs.Common.{◌∙◌, w32, SFits, rules}
use Rattle.std.proofs.lemmas.Int.{to_z-of_z}
use Rattle.counters.proofs.stopping.Scale.result.Goals as goal

pub returns-in-Sum : goal.returns-in-Sum
returns-in-Sum c =
    let x : SFits w32 c.args.x = c.ranges.x in
    let y : SFits w32 c.args.y = c.ranges.y in
    let a = simp to_z-of_z at c.nearest-x.ensures.value in
    let b = simp to_z-of_z at c.nearest-y.ensures.value in
    let r : SFits w32 c.min.result = search rules in
    to_z-of_z w32 c.min.result r ∙ rw (c.in-Sum.is, ← a, ← b) (search rules)
