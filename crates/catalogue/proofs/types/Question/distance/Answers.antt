-- `distance` finds the first that passes, since all before one that fails fail too (Rising, Firsts).
use Rattle.std.proofs.Common.{◌<◌, ◌≤◌, refl, arith, w32, rules}
use Rattle.std.proofs.lemmas.Int.{to_z-of_z}
use Rattle.catalogue.specs.Search.{rises}
use Rattle.catalogue.proofs.Rising.{stays, fits_on_the_way}
use Rattle.catalogue.proofs.Firsts.{fail_before, found_first, found_zero, found_none}
use Rattle.catalogue.proofs.types.Question.distance.Goals as goal
use Rattle.catalogue.proofs.types.Question.distance.Goals.{then-passes_at-2, else-passes_at-2}

pub returns-then-passes_at : goal.returns-then-passes_at
returns-then-passes_at g c = found_zero _ _ (stays _ (g.met.A.Arithmetic.laws _) c.args.self c.args.from c.args.n) c.ranges.n.fits
    (rw (to_z-of_z w32 c.args.from c.ranges.from) at c.if-passes_at.ensures)

pub returns-then-not-passes_at : goal.returns-then-not-passes_at
returns-then-not-passes_at g c = found_none _ _ (stays _ (g.met.A.Arithmetic.laws _) c.args.self c.args.from c.args.n) c.ranges.n.fits
    c.args.n refl (rw (to_z-of_z w32 c.args.from c.ranges.from) at c.if-not-passes_at.ensures)

pub passes_at-requires-in-loop-low : goal.passes_at-requires-in-loop-low
passes_at-requires-in-loop-low g c =
    rw (to_z-of_z w32 c.args.from c.ranges.from)
    (fits_on_the_way (rises c.args.self) c.args.from c.args.n _ (search rules) c.ranges.from c.requires)

pub loop-low-preserved : goal.loop-low-preserved
loop-low-preserved g c =
    let same = to_z-of_z w32 c.args.from c.ranges.from in
    let low_middle : c.loop-low.low ≤ c.clamp-middle.result = search rules in
    let middle_high : c.clamp-middle.result < c.loop-low.high = search rules in
    let inv = c.loop-low.invariant in
    elim c.if-passes_at-2.branch [
      | then-passes_at-2 w ↦ rw (w.low-is, w.high-is, same) (rw same at inv.0, rw same at w.if-passes_at-2.ensures, low_middle, omega arith)
      | else-passes_at-2 w ↦ rw (w.low-is, w.high-is, same) ((λ j h. fail_before _ _ (stays _ (g.met.A.Arithmetic.laws _) c.args.self c.args.from c.args.n) c.clamp-middle.result (omega arith) (rw same at w.if-passes_at-2.ensures) j (omega arith)), rw same at inv.1, omega arith, inv.3)
    ]

pub returns : goal.returns
returns g c =
    let same = to_z-of_z w32 c.args.from c.ranges.from in
    let inv = c.loop-low.invariant in
    let before = rw same at inv.0 in
    found_first _ _ (stays _ (g.met.A.Arithmetic.laws _) c.args.self c.args.from c.args.n) c.ranges.n.fits c.loop-low.high inv.3
    (rw same at inv.1) (λ j h. before j (omega arith))
