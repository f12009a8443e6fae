-- What some list of calls led to: one call more leads on from there, and what every history keeps, it keeps.
use Rattle.std.proofs.Common.{◌≡◌, ◌∷◌, ◌∙◌, sym, ap, subst}
use denote.Struct.Props.{props}
use Rattle.std.proofs.Math.Logic.{∥∥₁_map, ∥∥₁_elim}
use Rattle.catalogue.specs.Meanings.{Meaning}
use Rattle.sheet.specs.declared.table.Table.{Table}
use Rattle.sheet.specs.Histories.{Call, Reached, called}
use Rattle.sheet.proofs.Kept.{Kept, kept_after}

module _ (m : Meaning) (t : Table) where
  pub reached_by : (k : Call) (u : Table) → ∥ Reached m t ∥₁ → u ≡ called m k t → ∥ Reached m u ∥₁
  reached_by k u r e = ∥∥₁_map r (λ h. (k ∷ h.0, e ∙ ap (called m k) h.1))

  pub kept_if_reached : ∥ Reached m t ∥₁ → Kept t
  kept_if_reached r = record {
    formed = record {
      limits = ∥∥₁_elim r (search props) (λ h. (from h).formed.limits);
      ranges = ∥∥₁_elim r (search props) (λ h. (from h).formed.ranges);
      places = ∥∥₁_elim r (search props) (λ h. (from h).formed.places);
      passes = λ n l e. ∥∥₁_elim r (search props) (λ h. (from h).formed.passes n l e);
      due = λ k d. ∥∥₁_elim r (search props) (λ h. (from h).formed.due k d);
    };
    calm = λ e k. ∥∥₁_elim r (search props) (λ h. (from h).calm e k);
    busy = λ e. ∥∥₁_elim r (search props) (λ h. (from h).busy e);
  }
    where
      from : Reached m t → Kept t
      from h = subst Kept (sym h.1) (kept_after m h.0)
