-- What every table that some calls lead to keeps: its lengths, lines that pass the check, due places with a line, and a state that agrees with what is due.
use Rattle.std.proofs.Common.{◌≡◌, ◌≢◌, ℕ, zero, suc, ◌<◌, Bool, true, false, cond, ◌||◌, ltb, List, [], ◌∷◌, length, set, is_some, Some, None, Ok, Err, Option, Result, sym, refl, ap, ◌∙◌, subst, ⊎_elim, arith}
use Rattle.std.proofs.lemmas.List.{get_or-set_same, get_or-set_other, length-set}
use Rattle.std.proofs.lemmas.Bool.{both_ways, cases_eq, cond_both, or_cases, or_parts, ltb-true, not-false}
use Rattle.catalogue.specs.declared.types.Range.{Range}
use Rattle.catalogue.specs.declared.types.Triple.{Triple}
use Rattle.catalogue.specs.Meanings.{Meaning}
use Rattle.catalogue.specs.Ranges.{empty, holds_all, meet, smaller}
use Rattle.sheet.specs.declared.lines.Line.{Line}
use Rattle.sheet.specs.declared.table.Event.TheVariants.{Tightened, Loosened, Entered, Struck, Step}
use Rattle.sheet.specs.declared.table.State.{State}
use Rattle.sheet.specs.declared.table.State.TheVariants.{Settled, Open, Void}
use Rattle.sheet.specs.declared.table.Table.{Table}
use Rattle.sheet.specs.Boards.{line_in, names, places_naming, places_with_line}
use Rattle.sheet.specs.Calls.{bad_budget, limit_asked, limit_table, line_table, no_line}
use Rattle.sheet.specs.Histories.{Call, limit, enter, strike, settle, look, partner, after, called, passes_check}
use Rattle.sheet.specs.Numbers.{no_place}
use Rattle.sheet.specs.Places.{has, is_none, lowest, none, with_place, without}
use Rattle.sheet.specs.Rules.{after_steps, at_rest, cut, cut_table, cuts, limits_at, line_at, narrowed_table, new_table, range_at, reaction, rest_or_open, results_of, settling, stands, step_at, step_of_line, table_after_enter, table_after_limit, table_after_strike, table_at_limits, table_in_limits, table_or_void, table_with_due, table_with_line, table_with_range, table_without_line, then, void_table}
use Rattle.sheet.proofs.Boards.{in_range, naming_all, no_lines, standing_all}
use Rattle.sheet.proofs.PlaceSets.{empty_has, none_has, not_none, union_from, with_from, with_here, without_from}

-- ---- what a table keeps whatever its state
pub record Formed (t : Table) : Type 0 where
  pub limits : length t.limits ≡ 32
  pub ranges : length t.ranges ≡ 32
  pub places : length t.lines ≡ 64
  pub passes : (n : ℕ) (l : Line) → line_at t n ≡ Some l → passes_check l ≡ true
  pub due : (k : ℕ) → has t.due k ≡ true → stands t k ≡ true

-- and with its state
pub record Kept (t : Table) : Type 0 where
  pub formed : Formed t
  pub calm : at_rest t.state ≡ true → (k : ℕ) → has t.due k ≡ false
  pub busy : t.state ≡ Open → is_none t.due ≡ false

-- a place where a line stands
pub standing_place : (t : Table) → Formed t → (n : ℕ) → stands t n ≡ true → n < 64
standing_place t f n h = by (line_at t n) refl
  where
    by : (o : Option Line) → line_at t n ≡ o → n < 64
    by None e = absurd (both_ways (stands t n) (ap is_some e) h)
    by (Some l) e = let lt = in_range t.lines n l e in let long = f.places in omega arith

abbrev FormedO : Option Table → Type 0
FormedO None = Unit {0}
FormedO (Some t) = Formed t

-- where a register is named, a line stands
pub named_stands : (r : ℕ) (o : Option Line) → names r o ≡ true → is_some o ≡ true
named_stands r None e = absurd cc
named_stands r (Some l) e = refl

module _ (t : Table) (f : Formed t) where
  formed_void : Formed (void_table t)
  formed_void = record { limits = f.limits; ranges = f.limits; places = f.places; passes = f.passes; due = λ k d. absurd (both_ways (has none k) (none_has k) d) }

  formed_limits : Formed (table_at_limits t)
  formed_limits = record { limits = f.limits; ranges = f.limits; places = f.places; passes = f.passes; due = λ k d. sym (standing_all t.lines f.places k) ∙ d }

  formed_rest : Formed (rest_or_open t)
  formed_rest = record { limits = f.limits; ranges = f.ranges; places = f.places; passes = f.passes; due = f.due }

  formed_range : (r : ℕ) (new : Range) → Formed (table_with_range r new t)
  formed_range r new = record {
    limits = f.limits;
    ranges = length-set t.ranges r new ∙ f.ranges;
    places = f.places;
    passes = f.passes;
    due = λ k d. ⊎_elim (f.due k)
        (λ (e : has (places_naming r t.lines) k ≡ true). named_stands r (line_at t k) (sym (naming_all t.lines f.places r k) ∙ e))
        (or_cases (has t.due k) (has (places_naming r t.lines) k) (union_from t.due (places_naming r t.lines) k d));
  }

  pub formed_cut : (r : ℕ) (b : Range) → Formed (cut_table r b t)
  formed_cut r b = cond_both (smaller (meet (range_at t r) b) (range_at t r)) (table_with_range r (meet (range_at t r) b) t) t Formed (λ _. formed_range r (meet (range_at t r) b)) (λ _. f)

  formed_left : (r : ℕ) (b : Range) → FormedO (cut r b t)
  formed_left r b = cond_both (empty (meet (range_at t r) b)) None (Some (cut_table r b t)) FormedO (λ _. tt) (λ _. formed_cut r b)

  formed_or_void : (o : Option Table) → FormedO o → Formed (table_or_void t o)
  formed_or_void None h = formed_void
  formed_or_void (Some u) h = formed_rest_of u h
    where
      formed_rest_of : (u : Table) → Formed u → Formed (rest_or_open u)
      formed_rest_of u f = record { limits = f.limits; ranges = f.ranges; places = f.places; passes = f.passes; due = f.due }

formed_then : (o : Option Table) (r : ℕ) (b : Range) → FormedO o → FormedO (then o (cut r b))
formed_then None r b h = tt
formed_then (Some t) r b h = formed_left t h r b

pub formed_cuts : (l : Line) (o : Option Triple) (t : Table) → Formed t → FormedO (cuts l o t)
formed_cuts l None t f = tt
formed_cuts l (Some s) t f = formed_then (then (cut l.x s.x t) (cut l.y s.y)) l.z s.z (formed_then (cut l.x s.x t) l.y s.y (formed_left t f l.x s.x))

-- the line at n stops being due
pub formed_taken : (n : ℕ) (t : Table) → Formed t → Formed (record t { due = without n t.due })
formed_taken n t f = record { limits = f.limits; ranges = f.ranges; places = f.places; passes = f.passes; due = λ k d. f.due k (without_from n t.due k d).1 }

-- ---- with its state
open_state : (b : Bool) → cond b Settled Open ≡ Open → b ≡ false
open_state true e = absurd cc
open_state false e = refl

rest_state : (b : Bool) → at_rest (cond b Settled Open) ≡ true → b ≡ true
rest_state true e = refl
rest_state false e = absurd cc

kept_rest : (t : Table) → Formed (rest_or_open t) → Kept (rest_or_open t)
kept_rest t f = record { formed = f; calm = λ r k. empty_has t.due (rest_state (is_none t.due) r) k; busy = λ o. open_state (is_none t.due) o }

kept_void : (t : Table) → Formed (void_table t) → Kept (void_table t)
kept_void t f = record { formed = f; calm = λ _ k. none_has k; busy = λ e. absurd cc }

kept_or_void : (t : Table) → Formed t → (o : Option Table) → FormedO o → Kept (table_or_void t o)
kept_or_void t f None h = kept_void t (formed_void t f)
kept_or_void t f (Some u) h = kept_rest u (formed_rest u h)

kept_limits : (t : Table) → Formed t → Kept (table_at_limits t)
kept_limits t f = kept_rest (record t { ranges = t.limits; due = places_with_line t.lines }) (formed_limits t f)

module _ (m : Meaning) where
  kept_line : (o : Option Line) (t : Table) → Formed t → Kept (step_of_line m o t)
  kept_line None t f = kept_rest t (formed_rest t f)
  kept_line (Some l) t f = kept_or_void t f (narrowed_table m l t) (formed_cuts l (results_of m l t) t f)

  kept_at : (o : Option ℕ) (t : Table) → Kept t → Kept (step_at m o t)
  kept_at None t h = h
  kept_at (Some n) t h = kept_line (line_at t n) (record t { due = without n t.due }) (formed_taken n t h.formed)

  pub kept_step : (s : State) (t : Table) → Kept t → Kept (reaction m s Step t)
  kept_step Settled t h = h
  kept_step Open t h = kept_at (lowest t.due) t h
  kept_step Void t h = h

  kept_settling : (b : ℕ) (t : Table) → Kept t → Kept (settling m b t).table
  kept_settling zero t h = h
  kept_settling (suc b) t h = cond_both (at_rest t.state) record { table = t; steps = 0 } (after_steps 1 (settling m b (reaction m t.state Step t))) (λ a. Kept a.table)
      (λ _. h) (λ _. kept_settling b (reaction m t.state Step t) (kept_step t.state t h))

  -- limits
  kept_limit : (r : ℕ) (b : Range) (t : Table) → Kept t → Kept (table_after_limit m r b t)
  kept_limit r b t h = cond_both (holds_all (limits_at t r) b) (Tightened r) Loosened (λ e. Kept (reaction m t.state e now)) (λ _. tight t.state refl) (λ _. loose t.state)
    where
      now : Table
      now = record t { limits = set t.limits r b }

      formed : Formed now
      formed = let f = h.formed in record { limits = length-set t.limits r b ∙ f.limits; ranges = f.ranges; places = f.places; passes = f.passes; due = f.due }

      in_limits : Kept (table_in_limits r now)
      in_limits = kept_or_void now formed (cut r (limits_at now r) now) (formed_left now formed r (limits_at now r))

      tight : (s : State) → t.state ≡ s → Kept (reaction m s (Tightened r) now)
      tight Settled e = in_limits
      tight Open e = in_limits
      tight Void e = record { formed = formed; calm = λ _. h.calm (ap at_rest e); busy = h.busy }

      loose : (s : State) → Kept (reaction m s Loosened now)
      loose Settled = kept_limits now formed
      loose Open = kept_limits now formed
      loose Void = kept_limits now formed

  kept_limit_table : (r : ℕ) (q : Result Range ℕ) (t : Table) → Kept t → Kept (limit_table m r q t)
  kept_limit_table r (Ok b) t h = kept_limit r b t h
  kept_limit_table r (Err e) t h = h

  -- an enter at one of the places
  kept_enter : (n : ℕ) (l : Line) (t : Table) → n < 64 → passes_check l ≡ true → Kept t → Kept (table_after_enter m n l t)
  kept_enter n l t lt p h = by t.state refl
    where
      now : Table
      now = table_with_line n l t

      long : n < length t.lines
      long = let f = h.formed.places in omega arith

      put : (k : ℕ) (P : Option Line → Type 0) → P (Some l) → (k ≢ n → P (line_at t k)) → P (line_at now k)
      put k P here off = ⊎_elim
          (λ (e : k ≡ n). subst (λ j. P (line_at now j)) (sym e) (subst P (sym (get_or-set_same t.lines n (Some l) None long)) here))
          (λ (ne : k ≢ n). subst P (sym (get_or-set_other t.lines n k (Some l) None ne)) (off ne))
          (cases_eq k n)

      formed : Formed now
      formed = let f = h.formed in record {
        limits = f.limits;
        ranges = f.ranges;
        places = length-set t.lines n (Some l) ∙ f.places;
        passes = λ k j. put k (λ o. o ≡ Some j → passes_check j ≡ true) (λ e. let same : l ≡ j = cc in ap passes_check (sym same) ∙ p) (λ _. f.passes k j);
        due = λ k. put k (λ o. has t.due k ≡ true → is_some o ≡ true) (λ _. refl) (λ _. f.due k);
      }

      due : Kept (table_with_due n now)
      due = record {
        formed = record {
          limits = formed.limits;
          ranges = formed.ranges;
          places = formed.places;
          passes = formed.passes;
          due = λ k. put k (λ o. has (with_place n t.due) k ≡ true → is_some o ≡ true) (λ _. refl) (λ ne d. h.formed.due k (with_from n t.due k d ne));
        };
        calm = λ e. absurd cc;
        busy = λ _. not_none (with_place n t.due) n (with_here n t.due lt);
      }

      by : (s : State) → t.state ≡ s → Kept (reaction m s (Entered n) now)
      by Settled e = due
      by Open e = due
      by Void e = record { formed = formed; calm = λ _. h.calm (ap at_rest e); busy = h.busy }

  kept_line_table : (n : ℕ) (l : Line) (t : Table) → passes_check l ≡ true → Kept t → Kept (line_table m n l t)
  kept_line_table n l t p h = cond_both (no_place n || stands t n) t (table_after_enter m n l t) Kept (λ _. h)
      (λ e. kept_enter n l t (ltb-true n 64 (not-false (ltb n 64) (or_parts (no_place n) (stands t n) e).0)) p h)

  -- a strike
  kept_strike : (n : ℕ) (t : Table) → Kept t → Kept (table_after_strike m n t)
  kept_strike n t h = by t.state
    where
      now : Table
      now = table_without_line n t

      formed_now : Formed (record now { due = none })
      formed_now = let f = h.formed in record {
        limits = f.limits;
        ranges = f.ranges;
        places = length-set t.lines n None ∙ f.places;
        passes = λ k j e. ⊎_elim
            (λ (i : k ≡ n). absurd (gone k i (ap is_some e)))
            (λ (ne : k ≢ n). f.passes k j (sym (get_or-set_other t.lines n k None None ne) ∙ e))
            (cases_eq k n);
        due = λ k d. absurd (both_ways (has none k) (none_has k) d);
      }
        where
          gone : (k : ℕ) → k ≡ n → is_some (line_at now k) ≡ true → ⊥
          gone k i e = both_ways (is_some (line_at now k)) (ap is_some (taken k i)) e
            where
              taken : (k : ℕ) → k ≡ n → line_at now k ≡ None
              taken k i = subst (λ j. line_at now j ≡ None) (sym i) (nothing t.lines n)
                where
                  nothing : (ls : List (Option Line)) (n : ℕ) → line_in (set ls n None) n ≡ None
                  nothing [] n = refl
                  nothing (o ∷ ls) zero = refl
                  nothing (o ∷ ls) (suc n) = nothing ls n

      back : Kept (table_at_limits now)
      back = let f = formed_now in kept_rest (record now { ranges = now.limits; due = places_with_line now.lines }) (record {
        limits = f.limits;
        ranges = f.limits;
        places = f.places;
        passes = f.passes;
        due = λ k d. sym (standing_all now.lines f.places k) ∙ d;
      })

      by : (s : State) → Kept (reaction m s Struck now)
      by Settled = back
      by Open = back
      by Void = back

  -- ---- every call, and so every history
  kept_called : (k : Call) (t : Table) → Kept t → Kept (called m k t)
  kept_called (limit r low high) t h = kept_limit_table r (limit_asked m r low high) t h
  kept_called (enter n l) t h = cond_both (passes_check l) (line_table m n l t) t Kept (λ p. kept_line_table n l t p h) (λ _. h)
  kept_called (strike n) t h = cond_both (no_line n t) t (table_after_strike m n t) Kept (λ _. h) (λ _. kept_strike n t h)
  kept_called (settle b) t h = cond_both (bad_budget b) t (settling m b t).table Kept (λ _. h) (λ _. kept_settling b t h)
  kept_called (look r) t h = h
  kept_called (partner n x z) t h = h

  kept_new : Kept (new_table m)
  kept_new = record {
    formed = record { limits = refl; ranges = refl; places = refl; passes = λ n l e. let none_there = sym (no_lines n) ∙ e in absurd cc; due = λ k d. absurd (both_ways (has none k) (none_has k) d) };
    calm = λ _ k. none_has k;
    busy = λ e. absurd cc;
  }

  pub kept_after : (h : List Call) → Kept (after m h)
  kept_after [] = kept_new
  kept_after (k ∷ h) = kept_called k (after m h) (kept_after h)
