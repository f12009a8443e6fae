-- `cut` splits a text where its first mark stands (Cuts, Laws).
use Rattle.std.proofs.Common.{◌∙◌}
use Rattle.words.proofs.Cuts.{Cut, cut_at}
use Rattle.words.proofs.Laws.{parts}
use Rattle.words.proofs.cut.Goals as goal

pub returns : goal.returns
returns c =
    let at : Cut c.args.mark c.args.text.now c.unwrap_or.result = rw (c.unwrap_or.ensures, c.place.ensures) (cut_at c.args.mark c.args.text.now) in
    let front = c.split_at.ensures.front ∙ at.before in
    let back = c.split_at.ensures.back ∙ at.from in
    let all = parts c.args.mark c.args.text.now _ _ front back in
    record { front = front; back = back; whole = all.whole; clear = all.clear; stops = all.stops }
