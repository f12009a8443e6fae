use Rattle.std.proofs.Common.{sym, ap, ◌∙◌}
use Rattle.sheet.specs.Calls.{is_settled}
use Rattle.sheet.proofs.Reaching.{kept_if_reached}
use Rattle.promise.proofs.Comparing.{looks_same, looks_told}
use Rattle.promise.proofs.show_same.Goals as goal

pub returns-in-Ok-Ok : goal.returns-in-Ok-Ok
returns-in-Ok-Ok g c =
    let a = c.args.a.now in
    let b = c.args.b.now in
    let one = c.in-Ok-Ok.ensures in
    let other = c.in-Ok-Ok.ensures' in
    let kept = kept_if_reached (g.C.Catalogue.meaning a.catalogue) a.table a.reached in
    let kept_too = kept_if_reached (g.C.Catalogue.meaning b.catalogue) b.table b.reached in (
      (λ t.
          let told = c.shows_same.ensures.0 t in
          looks_same a.table b.table one.1 other.1
          (sym (ap (λ s. is_settled s.table.state) one.0) ∙ told.0 ∙ ap (λ s. is_settled s.table.state) other.0)
          (sym (ap (λ s. s.table.ranges) one.0) ∙ told.1 ∙ ap (λ s. s.table.ranges) other.0)),
      (λ h.
          let told = looks_told a.table b.table kept.formed.ranges kept_too.formed.ranges one.1 h in
          c.shows_same.ensures.1 (
            ap (λ s. is_settled s.table.state) one.0 ∙ told.0 ∙ sym (ap (λ s. is_settled s.table.state) other.0),
            ap (λ s. s.table.ranges) one.0 ∙ told.1 ∙ sym (ap (λ s. s.table.ranges) other.0),
          )),
    )
