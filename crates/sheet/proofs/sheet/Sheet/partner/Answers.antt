use Rattle.std.proofs.Common.{rules, Ok}
use Rattle.sheet.proofs.Partnering.{partner_words}
use Rattle.sheet.proofs.sheet.Sheet.partner.Goals as goal

pub returns-in_err-place-clause-words : goal.returns-in_err-place-clause-words
returns-in_err-place-clause-words g c =
    λ h l a b is here x z live. partner_words _ (g.met.C.Catalogue.laws c.args.self.now.catalogue) _ h is _ _ _ l here a b x z live _ (search rules)

pub returns-in_err-line-clause-words : goal.returns-in_err-line-clause-words
returns-in_err-line-clause-words g c =
    λ h l a b is here x z live. partner_words _ (g.met.C.Catalogue.laws c.args.self.now.catalogue) _ h is _ _ _ l here a b x z live _ (search rules)

pub returns-clause-words : goal.returns-clause-words
returns-clause-words g c =
    λ h l a b is here x z live. partner_words _ (g.met.C.Catalogue.laws c.args.self.now.catalogue) _ h is _ _ _ l here a b x z live (Ok c.partner_of.result) (search rules)
