-- `ExactSum::span` with down and up in the set: no mode gives less than the one, or more than the other (Between).
use Rattle.std.proofs.Common.{sym, ◌∙◌}
use Rattle.catalogue.specs.declared.types.Mode.TheVariants.{Up, Down}
use Rattle.catalogue.proofs.Sets.{least_at, greatest_at}
use Rattle.binary32.specs.Computed.{rank_by}
use Rattle.binary32.specs.Between.{down_least, up_greatest}
use Rattle.binary32.proofs.types.ExactSum.span.Goals as goal

pub returns-then-has-2 : goal.returns-then-has-2
returns-then-has-2 c =
    let s = c.args.self in
    let t = s.location.rank in
    let r = s.location.rest in
    record {
      least = c.directed_span.ensures.least ∙ least_at c.args.modes (rank_by s) Down (sym c.if-has.ensures) (down_least s.negative t r);
      greatest = c.directed_span.ensures.greatest ∙ greatest_at c.args.modes (rank_by s) Up (sym c.if-has-2.ensures) (up_greatest s.negative t r);
    }
