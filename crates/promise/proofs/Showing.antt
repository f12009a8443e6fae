-- What a look answers, in words: the patterns of a range of readings read back to its ends.
use Rattle.std.proofs.Common.{◌≡◌, ◌≢◌, ℕ, ℤ, ◌<◌, Bool, true, false, ltb, Ok, Err, Result, sym, refl, ap, ◌∙◌, subst, ⊎_elim, arith}
use mathlib.Core.Bool.{Bool-set}
use lib.Signed.{le_z}
use Rattle.std.proofs.Math.Logic.{∥∥₁_elim}
use Rattle.std.specs.Result.{IfOk}
use Rattle.std.proofs.lemmas.Int.{ints}
use Rattle.std.proofs.lemmas.Bool.{and_from, and_parts, both_ways, cases_Bool, cond-true, cond-false, ltb-true, not-false}
use Rattle.catalogue.proofs.Rising.{le_true, true_le}
use Rattle.catalogue.specs.declared.types.Range.{Range}
use Rattle.catalogue.specs.declared.types.Refusal.{Refusal}
use Rattle.catalogue.specs.Meanings.{Laws, Meaning, all_readings}
use Rattle.catalogue.specs.Ranges.{Holds, holds, Proper, Within}
use Rattle.sheet.specs.declared.table.State.{State}
use Rattle.sheet.specs.declared.table.State.TheVariants.{Settled, Open, Void}
use Rattle.sheet.specs.declared.table.Table.{Table}
use Rattle.sheet.specs.Calls.{in_patterns, is_settled, is_void, shown_range}
use Rattle.sheet.specs.Histories.{Reached}
use Rattle.sheet.specs.Numbers.{no_register}
use Rattle.sheet.specs.Rules.{limits_at, range_at}
use Rattle.promise.specs.declared.Shown.{Shown}
use Rattle.promise.specs.Shown.{IsShown, and_settled, show_answer, show_asked}
use Rattle.promise.proofs.Histories.{after_sound}
use Rattle.promise.proofs.Sounds.{Sound}

not_void : (s : State) → is_void s ≡ false → s ≢ Void
not_void s e f = both_ways (is_void s) e (ap is_void f)

settled_is : (s : State) → is_settled s ≡ true → s ≡ Settled
settled_is Settled e = refl
settled_is Open e = absurd cc
settled_is Void e = absurd cc

-- the ends of a range that is shown are readings
abbrev Ends : Meaning → Range → Type 0
Ends m a = Holds (all_readings m) a.low × Holds (all_readings m) a.high

sound_ends : (m : Meaning) (t : Table) → Sound m t → is_void t.state ≡ false → (r : ℕ) → r < 32 → Ends m (range_at t r)
sound_ends m t sound live r below =
    let on = sound.live live in
    let p : Proper (range_at t r) = on.proper r below in
    let w : Within (range_at t r) (limits_at t r) = on.within r below in
    let k : Within (limits_at t r) (all_readings m) = sound.readings r below in
    ((omega (arith, ints), omega (arith, ints)), (omega (arith, ints), omega (arith, ints)))

module _ (m : Meaning) (laws : Laws m) (t : Table) (ends_if : is_void t.state ≡ false → (r : ℕ) → r < 32 → Ends m (range_at t r)) (r : ℕ) (s : Shown) (answer : Ok (s.low, s.high, s.settled) ≡ show_asked m r t) where
  live : is_void t.state ≡ false
  live = ⊎_elim
      (λ d. let h = answer ∙ cond-true (is_void t.state) (Err 9) (and_settled (is_settled t.state) (in_patterns m (shown_range r t))) d in absurd cc)
      (λ d. d)
      (cases_Bool (is_void t.state))

  asked : Ok (s.low, s.high, s.settled) ≡ and_settled (is_settled t.state) (in_patterns m (shown_range r t))
  asked = answer ∙ cond-false (is_void t.state) (Err 9) (and_settled (is_settled t.state) (in_patterns m (shown_range r t))) live

  named : no_register r ≡ false
  named = ⊎_elim
      (λ d. let h = asked ∙ ap (λ q. and_settled (is_settled t.state) (in_patterns m q)) (cond-true (no_register r) (Err 1) (Ok (range_at t r)) d) in absurd cc)
      (λ d. d)
      (cases_Bool (no_register r))

  below : r < 32
  below = ltb-true r 32 (not-false (ltb r 32) named)

  abbrev a : Range
  a = range_at t r

  told : ◌≡◌ {A = Result (ℕ × ℕ × Bool) ℕ} (Ok (s.low, s.high, s.settled)) (Ok (m.writes a.low, m.writes a.high, is_settled t.state))
  told = asked ∙ ap (λ q. and_settled (is_settled t.state) (in_patterns m q)) (cond-false (no_register r) (Err 1) (Ok (range_at t r)) named)

  ends : Ends m a
  ends = ends_if live r below

  parts : (low high x y : ℕ) (b c : Bool) → ◌≡◌ {A = Result (ℕ × ℕ × Bool) ℕ} (Ok (low, high, b)) (Ok (x, y, c)) → (low ≡ x) × (high ≡ y) × (b ≡ c)
  parts low high x y b c e =
      let p : ℕ × ℕ × Bool = (low, high, b) in
      let q : ℕ × ℕ × Bool = (x, y, c) in
      let same : p ≡ q = cc in
      (ap (λ v. v.0) same, ap (λ v. v.1) same, ap (λ v. v.2) same)

  pub shown_words : IsShown m r s t
  shown_words =
      let same = parts s.low s.high (m.writes a.low) (m.writes a.high) s.settled (is_settled t.state) told in
      record {
        register = below;
        live = not_void t.state live;
        low = ap m.reads same.0 ∙ laws.writes a.low ends.0;
        high = ap m.reads same.1 ∙ laws.writes a.high ends.1;
        settled = ((λ e. settled_is t.state (sym same.2 ∙ e)), (λ e. same.2 ∙ ap is_settled e));
      }

-- the same of a table that some calls led to, and of any answer
module _ (m : Meaning) (laws : Laws m) (t : Table) (reached : ∥ Reached m t ∥₁) where
  reached_sound : Reached m t → Sound m t
  reached_sound h = subst (Sound m) (sym h.1) (after_sound m laws h.0)

  reached_ends : is_void t.state ≡ false → (r : ℕ) → r < 32 → Ends m (range_at t r)
  reached_ends live r below =
      let a = range_at t r in (
        held a.low (∥∥₁_elim reached (Bool-set _ _) (λ h. holding a.low (sound_ends m t (reached_sound h) live r below).0)),
        held a.high (∥∥₁_elim reached (Bool-set _ _) (λ h. holding a.high (sound_ends m t (reached_sound h) live r below).1)),
      )
    where
      holding : (v : ℤ) → Holds (all_readings m) v → holds (all_readings m) v ≡ true
      holding v h = and_from (le_z m.least v) (le_z v m.greatest) (true_le m.least v h.0) (true_le v m.greatest h.1)

      held : (v : ℤ) → holds (all_readings m) v ≡ true → Holds (all_readings m) v
      held v h = let p = and_parts (le_z m.least v) (le_z v m.greatest) h in (le_true m.least v p.0, le_true v m.greatest p.1)

  pub shown_if : (r : ℕ) (a : Result Shown Refusal) → show_answer a ≡ show_asked m r t → IfOk a (λ s. IsShown m r s t)
  shown_if r (Err e) h = tt
  shown_if r (Ok s) h = shown_words m laws t reached_ends r s h
