-- `edge` asks about ranks of 32 bits only, and gives the first that passes, or none (Edges).
use Rattle.std.proofs.Common.{◌≡◌, ◌^◌, ◌<◌, not, Some, None, sym, ap, ◌∙◌, subst, w32, FitsSigned, rules}
use Rattle.std.proofs.lemmas.Int.{to_z-of_z}
use Rattle.catalogue.specs.Ranges.{extent}
use Rattle.catalogue.specs.Search.{edge, rises, moved, origin}
use Rattle.catalogue.proofs.Rising.{fits_on_the_way}
use Rattle.catalogue.proofs.Edges.{other_end, origin_fits, edge_some, edge_none, found_within}
use Rattle.catalogue.proofs.types.Question.edge.Goals as goal

pub moved-requires : goal.moved-requires
moved-requires g c =
    let q = c.args.self in
    let r = c.range.result in
    let b = rises q in
    let f : FitsSigned w32 c.origin-from.result = search rules in
    let lo : FitsSigned w32 r.low = search rules in
    let hi : FitsSigned w32 r.high = search rules in
    let top : c.extent.result < 2 ^ 32 = search rules in
    let e = c.origin-from.ensures ∙ ap (λ v. origin v r) c.rises.ensures in
    let n = c.extent.ensures ∙ ap extent (sym c.range.ensures.value) in
    let h = simp to_z-of_z at c.in_ok-k.ensures in
    let k = found_within (g.A.Arithmetic.arith c.args.arithmetic.now) q r (g.met.A.Arithmetic.laws c.args.arithmetic.now) c.origin-from.result c.extent.result c.in_ok-k.k top h in
    let end : FitsSigned w32 (moved b c.origin-from.result c.extent.result) =
    rw (e, n) (subst (FitsSigned w32) (sym (other_end b r c.range.ensures.proper)) (origin_fits (not b) r lo hi)) in
    rw (c.rises-2.ensures, to_z-of_z w32 c.origin-from.result) (fits_on_the_way b c.origin-from.result c.extent.result c.in_ok-k.k k f end)

pub returns : goal.returns
returns g c =
    let a = g.A.Arithmetic.arith c.args.arithmetic.now in
    let f : FitsSigned w32 c.origin-from.result = search rules in
    let m : FitsSigned w32 c.moved.result = search rules in
    let r = c.range.result in
    let h = simp (to_z-of_z) at c.in_ok-k.ensures in
    ap Some (to_z-of_z w32 c.moved.result m) ∙ edge_some a c.args.self r c.origin-from.result c.extent.result c.rises-2.result c.moved.result c.in_ok-k.k
    (c.origin-from.ensures ∙ ap (λ v. origin v r) c.rises.ensures) (c.extent.ensures ∙ ap extent (sym c.range.ensures.value)) c.rises-2.ensures
    (simp to_z-of_z at c.moved.ensures) h
    ∙ ap (edge a c.args.self) c.range.ensures.value

pub returns-in_err-k : goal.returns-in_err-k
returns-in_err-k g c =
    let a = g.A.Arithmetic.arith c.args.arithmetic.now in
    let f : FitsSigned w32 c.origin-from.result = search rules in
    let r = c.range.result in
    let none : c.from_residual.result ≡ None = search rules in
    none ∙ edge_none a c.args.self r c.origin-from.result c.extent.result
    (c.origin-from.ensures ∙ ap (λ v. origin v r) c.rises.ensures) (c.extent.ensures ∙ ap extent (sym c.range.ensures.value)) (simp (to_z-of_z) at c.in_err-k.ensures)
    ∙ ap (edge a c.args.self) c.range.ensures.value
