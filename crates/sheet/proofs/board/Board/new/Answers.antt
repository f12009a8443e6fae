use Rattle.std.proofs.Common.{ap, ◌∙◌}
use Rattle.sheet.specs.Boards.{lines_of}
use Rattle.sheet.proofs.Boards.{new_agrees, new_lines, rows}
use Rattle.sheet.proofs.board.Board.new.Goals as goal

pub invariant_of-result : goal.invariant_of-result
invariant_of-result c = new_agrees _ _ c.none.ensures c.none-2.ensures

pub returns : goal.returns
returns c = ap (λ s. lines_of s rows) c.none.ensures ∙ new_lines
