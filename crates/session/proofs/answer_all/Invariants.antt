-- The loop of `answer_all` keeps this: what is written, and then the answers to the lines left, are the answers to all lines.
use Rattle.std.proofs.Common.{◌≡◌, ◌++◌, string_bytes}
use Rattle.session.specs.Sessions.{answers}
use Rattle.session.proofs.answer_all.Given as goal

abbrev pub invariant-loop-line : goal.invariant-loop-line
invariant-loop-line g l =
    let m = g.C.Catalogue.meaning l.sheet.catalogue in
    let n = g.C.Catalogue.meaning l.initial.sheet.catalogue in
    string_bytes l.out ++ answers m l.line-iterator l.sheet.table ≡ answers n l.initial.line-iterator l.initial.sheet.table
