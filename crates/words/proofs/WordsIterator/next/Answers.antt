-- `next` takes the first word (Laws).
use Rattle.std.proofs.Common.{length, ap, rules}
use Rattle.words.proofs.Laws.{words_taken}
use Rattle.words.proofs.WordsIterator.next.Goals as goal

pub returns-clause-steps : goal.returns-clause-steps
returns-clause-steps c =
    let taken = words_taken c.in_ok-self.field-0.now _ _ c.behind_first-self-inside.result c.word.ensures.word c.word.ensures.rest c.behind_first-self-inside.ensures in
    search rules

pub returns-clause-goes : goal.returns-clause-goes
returns-clause-goes c =
    let taken = words_taken c.in_ok-self.field-0.now _ _ c.behind_first-self-inside.result c.word.ensures.word c.word.ensures.rest c.behind_first-self-inside.ensures in
    let shorter = ap length taken in
    search rules
