-- `answer` carries the promise: one more call of a history (Replies, Promised).
use Rattle.std.proofs.Math.Logic.{∥∥₁_map}
use Rattle.commands.specs.Commands.{command_of}
use Rattle.promise.proofs.Promised.{promise_kept, consequences_kept}
use Rattle.session.proofs.Replies.{leads_on}
use Rattle.session.proofs.answer.Goals as goal

pub returns-clause-history : goal.returns-clause-history
returns-clause-history g c =
    let m = g.C.Catalogue.meaning c.args.sheet.now.catalogue in
    let laws = g.met.C.Catalogue.laws c.args.sheet.now.catalogue in
    λ h e. leads_on m laws (command_of c.args.line.now) h c.args.sheet.now.table _ c.respond.ensures.table e

pub returns-clause-leads_on : goal.returns-clause-leads_on
returns-clause-leads_on g c =
    let s = c.args.sheet.now in
    let m = g.C.Catalogue.meaning s.catalogue in
    let laws = g.met.C.Catalogue.laws s.catalogue in
    ∥∥₁_map s.reached (λ h. (h.0, (h.1, leads_on m laws (command_of c.args.line.now) h.0 s.table _ c.respond.ensures.table h.1)))

pub returns-clause-promise : goal.returns-clause-promise
returns-clause-promise g c = promise_kept (g.C.Catalogue.meaning c.args.sheet.now.catalogue) (g.met.C.Catalogue.laws c.args.sheet.now.catalogue)

pub returns-clause-consequences : goal.returns-clause-consequences
returns-clause-consequences g c = consequences_kept (g.C.Catalogue.meaning c.args.sheet.now.catalogue) (g.met.C.Catalogue.laws c.args.sheet.now.catalogue)
