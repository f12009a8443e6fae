-- A rank passes a question exactly if the code's comparison of a result with the bound comes out true.
use Rattle.std.proofs.Common.{◌≡◌, ℤ, sym, ap, ◌∙◌}
use lib.Signed.{le_z}
use Rattle.catalogue.specs.declared.types.Asks.TheVariants.{AtLeast, AtMost}
use Rattle.catalogue.specs.declared.types.Question.{Question}
use Rattle.catalogue.specs.declared.types.Span.{Span}
use Rattle.catalogue.specs.Operations.{Arith}
use Rattle.catalogue.specs.Search.{passes, meets, asked_span}

module _ (a : Arith) (q : Question) (v : ℤ) (r : Span) where
  pub at_least : q.asks ≡ AtLeast → r ≡ asked_span a q v → le_z q.bound r.greatest ≡ passes a q v
  unfolding passes
  at_least e h = ap (meets AtLeast q.bound) h ∙ ap (λ k. meets k q.bound (asked_span a q v)) (sym e)

  pub at_most : q.asks ≡ AtMost → r ≡ asked_span a q v → le_z r.least q.bound ≡ passes a q v
  unfolding passes
  at_most e h = ap (meets AtMost q.bound) h ∙ ap (λ k. meets k q.bound (asked_span a q v)) (sym e)
