-- `line` is what stands before the first line feed, and the text behind it (Laws).
use Rattle.std.proofs.Common.{◌≡◌, ap, ◌∙◌, drop, rules}
use Rattle.words.proofs.Laws.{line_parts}
use Rattle.words.proofs.line.Goals as goal

pub returns : goal.returns
returns c =
    let f = c.cut.ensures.front in
    let b : c.unwrap_or.result.now ≡ drop 1 c.cut.result.1.now = search rules in
    let r = b ∙ ap (drop 1) c.cut.ensures.back in
    let p = line_parts c.args.text.now _ _ f r in
    record { line = f; rest = r; clear = p.clear; whole = p.whole; lines = p.lines; shorter = p.shorter }
