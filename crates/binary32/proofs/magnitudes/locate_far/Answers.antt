-- `locate_far`: a far smaller magnitude leaves the sum at the larger one, or just off it (Apart).
use Rattle.std.proofs.Common.{sym, subst}
use Rattle.binary32.specs.declared.types.Location.{Location}
use Rattle.binary32.specs.Units.{units}
use Rattle.binary32.specs.Locations.{LiesAt, joined}
use Rattle.binary32.proofs.Apart.{far_zero, far_off}
use Rattle.binary32.proofs.magnitudes.locate_far.Goals as goal

pub returns-then-small-eq0 : goal.returns-then-small-eq0
returns-then-small-eq0 c = far_zero c.args.big c.args.small c.requires c.args.like c.if-small-eq0.true

pub returns-else-small-eq0 : goal.returns-else-small-eq0
returns-else-small-eq0 c =
    subst (λ (l : Location). LiesAt (joined c.args.like (units c.args.big) (units c.args.small)) l) (sym c.beside.ensures)
    (far_off c.args.big c.args.small c.requires c.args.like c.if-small-eq0.false)
