-- `ExactSum::span_of_each` takes in one mode after another, as the definition does (Spans).
use Rattle.std.proofs.Common.{◌≡◌, [], ◌∷◌, ap, ◌∙◌, w32, SFits, rules}
use Rattle.std.specs.List.{fold}
use Rattle.std.proofs.lemmas.Int.{to_z-of_z}
use Rattle.std.proofs.lemmas.Iterator.{YieldsList-from_slice}
use Rattle.std.proofs.lemmas.Iterator.Consumers.{fold_from_yields_List}
use Rattle.catalogue.specs.declared.types.Mode.TheVariants.{Up, Down, TowardZero}
use Rattle.catalogue.specs.declared.types.Span.{Span}
use Rattle.catalogue.specs.Modes.{first_mode}
use Rattle.binary32.specs.Computed.{rank_by, widened}
use Rattle.binary32.proofs.Spans.{each_least, each_greatest}
use Rattle.binary32.proofs.types.ExactSum.span_of_each.Goals as goal

pub returns : goal.returns
returns c =
    let e = c.args.self in
    let s = c.args.modes in
    let r : SFits w32 c.round.result = search rules in
    let i : c.round.result ≡ rank_by e (first_mode s) = c.round.ensures ∙ ap (rank_by e) c.first.ensures in
    let f : c.fold.result ≡ fold (widened e s) c.of-first.result (Up ∷ (Down ∷ (TowardZero ∷ []))) =
    fold_from_yields_List _ (widened e s) c.of-first.result c.fold.result c.fold.ensures.ran (YieldsList-from_slice (Up ∷ (Down ∷ (TowardZero ∷ []))) cc) (λ a x b q k. search rules) in
    record {
      least = ap (λ (p : Span). p.least) f ∙ each_least e s c.of-first.result (simp to_z-of_z at c.of-first.ensures.least ∙ i);
      greatest = ap (λ (p : Span). p.greatest) f ∙ each_greatest e s c.of-first.result (simp to_z-of_z at c.of-first.ensures.greatest ∙ i);
    }
