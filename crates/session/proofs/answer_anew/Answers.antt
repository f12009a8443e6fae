-- `answer_anew` carries the promise at every line: what calls on a new sheet lead to (Replies).
use Rattle.session.proofs.Replies.{told}
use Rattle.session.proofs.answer_anew.Goals as goal

pub returns-clause-histories : goal.returns-clause-histories
returns-clause-histories g c = told (g.C.Catalogue.meaning c.args.catalogue) (g.met.C.Catalogue.laws c.args.catalogue)
