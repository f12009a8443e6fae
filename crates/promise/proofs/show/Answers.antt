-- `show` carries the promise for the sheet's catalogue, by the laws that it keeps (Promised).
use Rattle.std.proofs.Math.Logic.{∥∥₁_map}
use Rattle.promise.proofs.Promised.{shows_after, promise_kept, consequences_kept}
use Rattle.promise.proofs.Showing.{shown_if}
use Rattle.promise.proofs.show.Goals as goal

pub returns-clause-shows : goal.returns-clause-shows
returns-clause-shows g c =
    ∥∥₁_map c.args.sheet.now.reached (λ r. (r.0, (r.1, shows_after _ (g.met.C.Catalogue.laws c.args.sheet.now.catalogue) c.args.sheet.now.table r.0 r.1)))

pub returns-clause-words : goal.returns-clause-words
returns-clause-words g c =
    let s = c.args.sheet.now in
    shown_if (g.C.Catalogue.meaning s.catalogue) (g.met.C.Catalogue.laws s.catalogue) s.table s.reached c.args.register c.look_at.result c.look_at.ensures

pub returns-clause-promise : goal.returns-clause-promise
returns-clause-promise g c = promise_kept _ (g.met.C.Catalogue.laws c.args.sheet.now.catalogue)

pub returns-clause-consequences : goal.returns-clause-consequences
returns-clause-consequences g c = consequences_kept _ (g.met.C.Catalogue.laws c.args.sheet.now.catalogue)
