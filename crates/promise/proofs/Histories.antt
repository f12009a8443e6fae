-- After every history the table is sound.
use Rattle.std.proofs.Common.{◌≡◌, ℕ, zero, suc, ◌<◌, false, not, ◌||◌, ltb, List, [], ◌∷◌, get_or, replicate, Ok, Err, Result, sym, refl, ◌∙◌, subst}
use Rattle.std.proofs.lemmas.List.{get_or-replicate}
use Rattle.std.proofs.lemmas.Bool.{both_ways, cond_both, ltb-true, not-false, or_parts}
use Rattle.catalogue.specs.declared.types.Range.{Range}
use Rattle.catalogue.specs.Meanings.{Meaning, Laws, all_readings}
use Rattle.catalogue.specs.Ranges.{Within, Proper}
use Rattle.sheet.specs.declared.lines.Line.{Line}
use Rattle.sheet.specs.declared.table.Event.TheVariants.{Step}
use Rattle.sheet.specs.declared.table.Table.{Table}
use Rattle.sheet.specs.Calls.{bad_budget, limit_asked, limit_table, line_table, no_line}
use Rattle.sheet.specs.Numbers.{no_place}
use Rattle.sheet.specs.Rules.{after_steps, at_rest, limits_at, line_at, new_table, no_range, reaction, settling, stands, table_after_enter, table_after_limit, table_after_strike}
use Rattle.sheet.proofs.Boards.{no_lines, none_from}
use Rattle.sheet.proofs.Kept.{Kept, kept_after, kept_step}
use Rattle.sheet.proofs.Meets.{within_self}
use Rattle.sheet.proofs.Recounts.{asked_words}
use Rattle.sheet.proofs.Wordings.{enter_words, limit_words, reaction_words, strike_words}
use Rattle.promise.specs.Histories.{Call, limit, enter, strike, settle, look, partner, passes_check, called, after}
use Rattle.promise.proofs.Keeping.{enter_sound, limit_sound, step_sound, strike_sound}
use Rattle.promise.proofs.Sounds.{Sound}

module _ (m : Meaning) (laws : Laws m) where
  -- ---- a new table
  new_limit : (r : ℕ) → r < 32 → get_or (replicate 32 (all_readings m)) r no_range ≡ all_readings m
  new_limit r lt = get_or-replicate 32 r (all_readings m) no_range lt

  new_sound : Sound m (new_table m)
  new_sound = record {
    kept = kept_after m [];
    proper = λ r lt. subst Proper (sym (new_limit r lt)) laws.ends;
    readings = λ r lt. subst (λ a. Within a (all_readings m)) (sym (new_limit r lt)) (within_self (all_readings m));
    live = λ _. record {
      holds = λ σ c. c.within;
      proper = λ r lt. subst Proper (sym (new_limit r lt)) laws.ends;
      within = λ r _. within_self (limits_at (new_table m) r);
      quiet = λ k l e _. let h = sym (no_lines k) ∙ e in absurd cc;
    };
    void = λ h. absurd (both_ways false refl h);
  }

  -- ---- limits as they are asked for
  record Right (r : ℕ) (b : Range) : Type 0 where
    register : r < 32
    proper : Proper b
    readings : Within b (all_readings m)

  asked_right : (r low high : ℕ) (b : Range) → limit_asked m r low high ≡ Ok b → Right r b
  asked_right r low high b e =
      let a = asked_words m r low high b e in
      record { register = a.register; proper = a.proper; readings = ((laws.reads low b.low a.reads_low).0, (laws.reads high b.high a.reads_high).1) }

  limits_set : (r : ℕ) (t : Table) → Sound m t → (a : Result Range ℕ) → ((b : Range) → a ≡ Ok b → Right r b) → Kept (limit_table m r a t) → Sound m (limit_table m r a t)
  limits_set r t sound (Err e) right kept = sound
  limits_set r t sound (Ok b) right kept =
      let h = right b refl in
      limit_sound m r b t (table_after_limit m r b t) sound kept (limit_words m r b t h.register sound.kept) h.register h.proper h.readings

  -- ---- steps
  next_sound : (t : Table) → Sound m t → at_rest t.state ≡ false → Sound m (reaction m t.state Step t)
  next_sound t sound e = step_sound m laws t (reaction m t.state Step t) sound (kept_step m t.state t sound.kept) (reaction_words m t sound.kept e)

  settled_sound : (b : ℕ) (t : Table) → Sound m t → Sound m (settling m b t).table
  settled_sound zero t sound = sound
  settled_sound (suc b) t sound = cond_both (at_rest t.state) record { table = t; steps = 0 } (after_steps 1 (settling m b (reaction m t.state Step t))) (λ a. Sound m a.table)
      (λ _. sound) (λ e. settled_sound b (reaction m t.state Step t) (next_sound t sound e))

  -- ---- each call
  line_entered : (n : ℕ) (l : Line) (t : Table) → Sound m t → Kept (line_table m n l t) → Sound m (line_table m n l t)
  line_entered n l t sound = cond_both (no_place n || stands t n) t (table_after_enter m n l t) (λ u. Kept u → Sound m u)
      (λ _ _. sound)
      (λ d kept.
      let parts = or_parts (no_place n) (stands t n) d in
      let is = enter_words m n l t (ltb-true n 64 (not-false (ltb n 64) parts.0)) parts.1 in
      enter_sound m t (table_after_enter m n l t) sound kept is.limits n l is (none_from (line_at t n) parts.1))

  called_sound : (k : Call) (t : Table) → Sound m t → Kept (called m k t) → Sound m (called m k t)
  called_sound (limit r low high) t sound = limits_set r t sound (limit_asked m r low high) (asked_right r low high)
  called_sound (enter n l) t sound = cond_both (passes_check l) (line_table m n l t) t (λ u. Kept u → Sound m u) (λ _. line_entered n l t sound) (λ _ _. sound)
  called_sound (strike n) t sound = cond_both (no_line n t) t (table_after_strike m n t) (λ u. Kept u → Sound m u)
      (λ _ _. sound)
      (λ d kept. let is = strike_words m n t (not-false (stands t n) (or_parts (no_place n) (not (stands t n)) d).1) in strike_sound m t (table_after_strike m n t) sound kept is.limits n is)
  called_sound (settle b) t sound = cond_both (bad_budget b) t (settling m b t).table (λ u. Kept u → Sound m u) (λ _ _. sound) (λ _ _. settled_sound b t sound)
  called_sound (look r) t sound = λ _. sound
  called_sound (partner n x z) t sound = λ _. sound

  pub after_sound : (h : List Call) → Sound m (after m h)
  after_sound [] = new_sound
  after_sound (k ∷ h) = called_sound k (after m h) (after_sound h) (kept_after m (k ∷ h))
