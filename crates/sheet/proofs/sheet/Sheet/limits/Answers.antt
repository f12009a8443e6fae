use Rattle.std.proofs.Common.{rules}
use Rattle.sheet.proofs.ReadingBack.{limits_words}
use Rattle.sheet.proofs.sheet.Sheet.limits.Goals as goal

pub returns-clause-words : goal.returns-clause-words
returns-clause-words g c = λ h is.
    limits_words (g.C.Catalogue.meaning c.args.self.now.catalogue) c.args.self.now.table h is c.args.register c.in_ok-register.ensures.1 c.patterns.result (search rules)
