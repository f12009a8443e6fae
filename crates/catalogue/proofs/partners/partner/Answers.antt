-- `partner` computes as the definition does, and that is what the words say (Found).
use Rattle.std.proofs.Common.{◌≡◌, sym, subst, rules}
use Rattle.catalogue.specs.Operations.{allowed}
use Rattle.catalogue.specs.Partners.{SomeOf, partnered}
use Rattle.catalogue.proofs.Found.{partnered_is}
use Rattle.catalogue.proofs.partners.partner.Goals as goal

pub returns-clause-words : goal.returns-clause-words
returns-clause-words g c =
    let a = g.A.Arithmetic.arith c.args.arithmetic.now in
    let k = c.args.operation.kind in
    let s = c.args.operation.modes in
    let x = c.args.x in
    let z = c.args.z in
    let y = c.args.y in
    let v : c.partner.result ≡ partnered a k s x z y = search rules in
    subst (SomeOf y (λ u. allowed a k s x u z)) (sym v) (partnered_is a (g.met.A.Arithmetic.laws c.args.arithmetic.now) k s x z y)
