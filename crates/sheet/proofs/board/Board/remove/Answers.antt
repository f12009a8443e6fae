use Rattle.std.proofs.Common.{rules, ◌≡◌, ◌<◌, Some, None, set, ap, ◌∙◌, arith}
use Rattle.sheet.proofs.Boards.{in_range, lines_length, lines_take, taken_agrees}
use Rattle.sheet.specs.Boards.{line_in, lines_of, index_without}
use Rattle.sheet.proofs.board.Board.remove.Goals as goal

pub invariant_of-self : goal.invariant_of-self
invariant_of-self c =
    let b = c.self.inside in
    let n = c.args.place in
    let l = c.in-Ok.checked.line in
    let here : line_in c.args.self.now n ≡ Some l = search rules in
    let there : line_in (lines_of b.standing b.rows) n ≡ Some l = ap (λ ls. line_in ls n) c.self.view_is ∙ here in
    let lt : n < 64 = let h = in_range _ n l there in let e = lines_length b.standing 0 b.rows in let f = c.self.invariant.places in omega arith in
    let naming = c.unname-in-Ok-2.ensures ∙ ap (index_without n l.z) (c.unname-in-Ok.ensures ∙ ap (index_without n l.y) c.unname.ensures) in
    rw (c.without-self-inside.ensures, naming) (taken_agrees b.rows b.standing b.naming c.self.invariant n lt c.in-Ok.checked there)

pub returns-in-Ok : goal.returns-in-Ok
returns-in-Ok c =
    let b = c.self.inside in
    let n = c.args.place in
    let l = c.in-Ok.checked.line in
    let here : line_in c.args.self.now n ≡ Some l = search rules in
    let there : line_in (lines_of b.standing b.rows) n ≡ Some l = ap (λ ls. line_in ls n) c.self.view_is ∙ here in
    let lt : n < 64 = let h = in_range _ n l there in let e = lines_length b.standing 0 b.rows in let f = c.self.invariant.places in omega arith in
    ap (λ s. lines_of s b.rows) c.without-self-inside.ensures ∙ lines_take b.standing b.rows c.self.invariant.places n lt (record { kind = 0; modes = 0; x = 0; y = 0; z = 0 }) ∙ ap (λ ls. set ls n None) c.self.view_is
