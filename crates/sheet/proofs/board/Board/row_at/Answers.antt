use Rattle.std.proofs.Common.{rules, ◌≡◌, ◌<◌, true, false, is_some, get_or, sym, subst, ap, ◌∙◌, arith}
use Rattle.sheet.proofs.Boards.{has_of_view, line_there, none_from}
use Rattle.sheet.specs.Boards.{line_in, line_if, line_or_none}
use Rattle.sheet.specs.declared.table.Row.{Row}
use Rattle.sheet.specs.Lines.{checked_line, drawn_of}
use Rattle.sheet.specs.Places.{has}
use Rattle.sheet.proofs.board.Board.row_at.Goals as goal

pub returns-then-has : goal.returns-then-has
returns-then-has c =
    let b = c.self.inside in
    let n = c.args.place in
    let d : Row = record { kind = 0; modes = 0; x = 0; y = 0; z = 0 } in
    let stands : has b.standing n ≡ true = search rules in
    let lt : n < 64 = subst (λ i. i < 64) c.index.ensures.value c.index.ensures.below in
    let long = c.self.invariant.places in
    let there = line_there b.standing b.rows c.args.self.now n d c.self.view_is (omega arith) in
    ap (λ i. line_or_none (checked_line (drawn_of (get_or b.rows i d)))) c.index.ensures.value
    ∙ ap (λ t. line_if t (get_or b.rows n d)) (sym stands) ∙ sym there

pub returns-else-has : goal.returns-else-has
returns-else-has c =
    let off : is_some (line_in c.args.self.now c.args.place) ≡ false = sym (has_of_view _ _ _ c.self.invariant _ c.self.view_is c.args.place) ∙ sym c.has.ensures ∙ c.if-has.false in
    sym (none_from _ off)
