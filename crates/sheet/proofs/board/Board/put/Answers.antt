use Rattle.std.proofs.Common.{◌≡◌, ◌<◌, Some, None, set, ap, ◌∙◌, subst}
use Rattle.sheet.proofs.Boards.{lines_put, none_from, put_agrees, remade}
use Rattle.sheet.specs.Boards.{line_in, lines_of, index_with}
use Rattle.sheet.specs.Lines.{row_of}
use Rattle.sheet.proofs.board.Board.put.Goals as goal

pub invariant_of-self : goal.invariant_of-self
invariant_of-self c =
    let b = c.self.inside in
    let n = c.args.place in
    let l = c.args.checked.line in
    let lt : n < 64 = subst (λ i. i < 64) c.index.ensures.value c.index.ensures.below in
    let free : line_in (lines_of b.standing b.rows) n ≡ None = ap (λ ls. line_in ls n) c.self.view_is ∙ none_from _ c.requires in
    let naming = c.name-3.ensures ∙ ap (index_with n l.z) (c.name-2.ensures ∙ ap (index_with n l.y) c.name.ensures) in
    rw (c.index.ensures.value, c.from.ensures, c.with-self-inside.ensures, naming) (put_agrees b.rows b.standing b.naming c.self.invariant n lt c.args.checked free)

pub returns : goal.returns
returns c =
    let b = c.self.inside in
    let n = c.args.place in
    let l = c.args.checked.line in
    let lt : n < 64 = subst (λ i. i < 64) c.index.ensures.value c.index.ensures.below in
    rw (c.index.ensures.value, c.from.ensures, c.with-self-inside.ensures) (lines_put b.standing b.rows c.self.invariant.places n lt (row_of l) l (remade c.args.checked) ∙ ap (λ ls. set ls n (Some l)) c.self.view_is)
