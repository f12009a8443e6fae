-- Two sheets compared: what a look at both tells, and that sheets at rest with the same limits and lines show the same.
use Rattle.std.proofs.Common.{◌≡◌, ◌≢◌, ℕ, ◌<◌, Bool, true, false, length, get_or, sym, refl, ap, ◌∙◌, subst, inl, inr, ⊎_elim, arith}
use denote.Struct.Props.{props}
use Rattle.std.proofs.Math.Logic.{∥∥₁_elim}
use Rattle.std.proofs.lemmas.List.{ext_get_or}
use Rattle.std.proofs.lemmas.Bool.{both_ways}
use Rattle.catalogue.specs.Meanings.{Laws, Meaning}
use Rattle.sheet.specs.declared.table.State.{State}
use Rattle.sheet.specs.declared.table.State.TheVariants.{Settled, Open, Void}
use Rattle.sheet.specs.declared.table.Table.{Table}
use Rattle.sheet.specs.Calls.{is_settled, is_void}
use Rattle.sheet.specs.Histories.{Reached}
use Rattle.sheet.specs.Rules.{limits_at, line_at, no_range, range_at}
use Rattle.promise.specs.Compared.{SameAtRest, ShowSame}
use Rattle.promise.specs.Promise.{Alike}
use Rattle.promise.proofs.Histories.{after_sound}
use Rattle.promise.proofs.Promised.{same_rest, shows}
use Rattle.promise.proofs.Sounds.{Sound}

state_same : (s v : State) → is_void s ≡ false → is_void v ≡ false → is_settled s ≡ is_settled v → s ≡ v
state_same Settled Settled a b e = refl
state_same Open Open a b e = refl
state_same Settled Open a b e = absurd cc
state_same Open Settled a b e = absurd cc
state_same Void v a b e = absurd cc
state_same Settled Void a b e = absurd cc
state_same Open Void a b e = absurd cc

not_void : (s : State) → is_void s ≡ false → s ≢ Void
not_void s e f = both_ways (is_void s) e (ap is_void f)

module _ (t u : Table) where
  -- what two looks tell
  pub looks_same : is_void t.state ≡ false → is_void u.state ≡ false → is_settled t.state ≡ is_settled u.state → t.ranges ≡ u.ranges → ShowSame t u
  looks_same a b e f = inr (not_void t.state a, state_same t.state u.state a b e, λ r _. ap (λ ls. get_or ls r no_range) f)

  -- and what they do not
  pub looks_told : length t.ranges ≡ 32 → length u.ranges ≡ 32 → is_void t.state ≡ false → ShowSame t u → (is_settled t.state ≡ is_settled u.state) × (t.ranges ≡ u.ranges)
  looks_told lt lu a h = ⊎_elim
      (λ (v : (t.state ≡ Void) × (u.state ≡ Void)). absurd (not_void t.state a v.0))
      (λ (v : (t.state ≢ Void) × (t.state ≡ u.state) × ((r : ℕ) → r < 32 → range_at t r ≡ range_at u r)).
      (ap is_settled v.1, ext_get_or no_range t.ranges u.ranges (lt ∙ sym lu) (λ r h. v.2 r (omega (arith, lt)))))
      h

-- ---- two sheets at rest with the same limits and lines
module _ (m : Meaning) (laws : Laws m) (t u : Table) (same : SameAtRest t u) where
  alike_same : Alike t u → ShowSame t u
  alike_same h = ⊎_elim
      (λ v. inl v)
      (λ (v : (t.state ≡ Settled) × (u.state ≡ Settled) × ((r : ℕ) → r < 32 → range_at t r ≡ range_at u r)). inr ((λ e. let f = sym v.0 ∙ e in absurd cc), v.0 ∙ sym v.1, v.2))
      h

  rest_same : Sound m t → Sound m u → ShowSame t u
  rest_same a b = alike_same (same_rest m (limits_at t) (limits_at u) (line_at t) (line_at u) t u
      (shows m laws t a (limits_at t) (line_at t) (λ r _. refl) (λ n. refl))
      (shows m laws u b (limits_at u) (line_at u) (λ r _. refl) (λ n. refl))
      same.rests same.rests_too same.limits same.lines)

  sound_if : (v : Table) → Reached m v → Sound m v
  sound_if v h = subst (Sound m) (sym h.1) (after_sound m laws h.0)

  pub compared : ∥ Reached m t ∥₁ → ∥ Reached m u ∥₁ → (b : Bool) → (ShowSame t u → b ≡ true) → b ≡ true
  compared a c b told = ∥∥₁_elim a (search props) (λ h. ∥∥₁_elim c (search props) (λ k. told (rest_same (sound_if t h) (sound_if u k))))
