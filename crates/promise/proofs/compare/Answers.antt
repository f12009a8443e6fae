-- `compare` carries the promise about two sheets at rest (Comparing).
use Rattle.std.proofs.Common.{sym, subst}
use Rattle.sheet.specs.Histories.{Reached}
use Rattle.promise.proofs.Comparing.{compared}
use Rattle.promise.proofs.compare.Goals as goal

pub returns-clause-at_rest : goal.returns-clause-at_rest
returns-clause-at_rest g c = λ same rest.
    let a = c.args.a.now in
    let b = c.args.b.now in
    compared (g.C.Catalogue.meaning a.catalogue) (g.met.C.Catalogue.laws a.catalogue) a.table b.table rest a.reached
    (subst (λ m. ∥ Reached m b.table ∥₁) (sym same) b.reached) c.show_same.result c.show_same.ensures.1
