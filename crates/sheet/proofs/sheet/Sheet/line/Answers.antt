use Rattle.std.proofs.Common.{rules}
use Rattle.sheet.proofs.Reaching.{kept_if_reached}
use Rattle.sheet.proofs.ReadingBack.{line_again, line_words}
use Rattle.sheet.proofs.sheet.Sheet.line.Goals as goal

pub returns-clause-words : goal.returns-clause-words
returns-clause-words g c = λ h is.
    line_words (g.C.Catalogue.meaning c.args.self.now.catalogue) c.args.self.now.table h is c.args.place c.in_ok-place.ensures.1 c.map.result (search rules)

pub returns-clause-again : goal.returns-clause-again
returns-clause-again g c =
    let s = c.args.self.now in
    line_again s.table (kept_if_reached (g.C.Catalogue.meaning s.catalogue) s.table s.reached) c.args.place c.in_ok-place.ensures.1 c.map.result (search rules)
