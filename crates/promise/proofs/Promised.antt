-- The promise, kept: a settled sheet shows the greatest consistent set within its limits, and sheets with the same limits and lines come to the same rest.
use Rattle.std.proofs.Common.{◌≡◌, ◌≢◌, ℕ, ◌<◌, Bool, true, false, not, ◌&&◌, ◌||◌, eqb, ltb, List, [], ◌∷◌, is_some, ℤ, Some, None, Option, sym, refl, ap, ◌∙◌, subst, inl, inr, ⊎_elim, arith}
use Rattle.std.proofs.lemmas.Int.{ints}
use Rattle.std.proofs.lemmas.Bool.{cases_eq, both_ways, cond-true, cond-false, eq-eqb, ne_eqb, lt-ltb, and_from, and_left}
use Rattle.catalogue.specs.declared.types.Triple.{Triple}
use Rattle.catalogue.specs.Meanings.{Meaning, Laws, all_readings}
use Rattle.catalogue.specs.Ranges.{Holds, HoldsO, Within, WithinO}
use Rattle.catalogue.proofs.Laws.{range_same}
use Rattle.sheet.specs.declared.lines.Line.{Line}
use Rattle.sheet.specs.declared.table.State.{State}
use Rattle.sheet.specs.declared.table.State.TheVariants.{Settled, Open, Void}
use Rattle.sheet.specs.declared.table.Table.{Table}
use Rattle.sheet.specs.Boards.{line_in}
use Rattle.sheet.specs.Calls.{is_void}
use Rattle.sheet.specs.Numbers.{no_place}
use Rattle.sheet.specs.Places.{has}
use Rattle.sheet.specs.Rules.{at_rest, limits_at, line_at, range_at, stands, step}
use Rattle.sheet.specs.Words.{DueExactly, IsStep, IsVoid, Narrows, NamesChanged, NothingLeft}
use Rattle.sheet.proofs.Kept.{standing_place}
use Rattle.sheet.proofs.Recounts.{limits_after, line_after}
use Rattle.sheet.proofs.Wordings.{registers, step_words}
use Rattle.promise.specs.Histories.{Call, strike, enter, after, limits_of, line_of, passes_check}
use Rattle.promise.specs.Promise.{Alike, Assignment, Consequences, Consistent, ForEveryCatalogue, HasLine, Inside, Keeps, Lines, Ranges, Rests, SameLimits, SameLines, SameRest, Shows, ShowsAfter, given_to, settles}
use Rattle.promise.proofs.Alone.{unchanged_alone, alone_unchanged}
use Rattle.promise.proofs.Declining.{called_declined}
use Rattle.promise.proofs.Histories.{after_sound}
use Rattle.promise.proofs.Sounds.{Fixed, Sound}
use Rattle.promise.proofs.Unmoving.{gets_within, unchanged, unmoved}

has_line : (far here : Bool) → far ≡ false → here ≡ true → (far || not here) ≡ false
has_line far here e f = ap (λ a. a || not here) e ∙ ap not f

has_none : (far here : Bool) → here ≡ false → (far || not here) ≡ true
has_none true here e = refl
has_none false here e = ap not e

not_void : (s : State) → (s ≡ Void → ⊥) → is_void s ≡ false
not_void Settled h = refl
not_void Open h = refl
not_void Void h = absurd (h refl)

settled_on : {s : State} → s ≡ Settled → s ≡ Void → ⊥
settled_on {s} e f = cc

-- ---- an assignment as a set of ranges of one reading each
abbrev point : Assignment → Ranges
point v r = record { low = v r; high = v r }

holds_within : (v : Assignment) (l : Line) (o : Option Triple) → HoldsO o (v l.x) (v l.y) (v l.z) → WithinO (Some (given_to l (point v))) o
holds_within v l None h = h
holds_within v l (Some s) h = ((h.0.0, h.0.1), (h.1.0, h.1.1), (h.2.0, h.2.1))

at_least : (x : ℤ) → Holds (record { low = x; high = x }) x
at_least x = (omega (arith, ints), omega (arith, ints))

-- ---- what a sound table with these limits and lines shows
module _ (m : Meaning) (laws : Laws m) (t : Table) (sound : Sound m t) (limits : Ranges) (lines : Lines) (limits_are : (r : ℕ) → r < 32 → limits_at t r ≡ limits r) (lines_are : (n : ℕ) → line_at t n ≡ lines n) where
  here : (n : ℕ) (l : Line) → lines n ≡ Some l → line_at t n ≡ Some l
  here n l e = lines_are n ∙ e

  place_of : (n : ℕ) (l : Line) → lines n ≡ Some l → n < 64
  place_of n l e = standing_place t sound.kept.formed n (ap is_some (here n l e))

  point_fixed : (v : Assignment) → Keeps m limits lines v → Fixed m (limits_at t) (line_at t) (point v)
  point_fixed v k = record {
    proper = λ r _. (at_least (v r)).0;
    within = λ r lt. subst (Within (point v r)) (sym (limits_are r lt)) ((k.limits_kept r lt).0, (k.limits_kept r lt).1);
    unmoved = λ n l e. holds_within v l _ (laws.kept l.operation.kind l.operation.modes (given_to l (point v)) (v l.x) (v l.y) (v l.z)
        (k.lines_kept l (record { place = n; here = sym (lines_are n) ∙ e })) (at_least (v l.x), at_least (v l.y), at_least (v l.z)));
  }

  set_fixed : (σ : Ranges) → Consistent m lines σ → Inside σ limits → Fixed m (limits_at t) (line_at t) σ
  set_fixed σ c i = record {
    proper = c.proper;
    within = λ r lt. subst (Within (σ r)) (sym (limits_are r lt)) (i r lt);
    unmoved = λ n l e. unmoved m laws σ l (registers l (sound.kept.formed.passes n l e)) (c.unchanged l (record { place = n; here = sym (lines_are n) ∙ e }));
  }

  table_consistent : t.state ≡ Settled → Consistent m lines (range_at t)
  table_consistent e =
      let on = sound.live (ap is_void e) in
      record {
        proper = on.proper;
        readings = λ r lt. within_then_readings r lt (on.within r lt);
        unchanged = λ l f. unchanged m laws (range_at t) l (on.quiet f.place l (here f.place l f.here) (sound.kept.calm (ap at_rest e) f.place));
      }
    where
      within_then_readings : (r : ℕ) → r < 32 → Within (range_at t r) (limits_at t r) → Within (range_at t r) (all_readings m)
      within_then_readings r lt w = let k = sound.readings r lt in (omega (arith, ints), omega (arith, ints))

  in_limits : t.state ≢ Void → Inside (range_at t) limits
  in_limits ne r lt = subst (Within (range_at t r)) (limits_are r lt) ((sound.live (not_void t.state ne)).within r lt)

  -- open, a line that stands is due
  open_busy : t.state ≡ Open → (n : ℕ) × ((l : Line) × ((lines n ≡ Some l) × (has t.due n ≡ true)))
  open_busy e = let s = step_words m t sound.kept e in (s.place, (s.line, (sym (lines_are s.place) ∙ s.there, s.lowest.1)))

  pub shows : Shows m limits lines t
  shows = record {
    limits_are = limits_are;
    lines_are = lines_are;
    there = λ n l e. has_line (no_place n) (stands t n) (ap not (lt-ltb n 64 (place_of n l e))) (ap is_some (here n l e));
    free = λ n e. has_none (no_place n) (stands t n) (ap is_some (lines_are n ∙ e));
    consistent = table_consistent;
    in_limits = in_limits;
    greatest = λ ne σ c i. (sound.live (not_void t.state ne)).holds σ (set_fixed σ c i);
    void_none = λ e σ c i. sound.void (ap is_void e) σ (set_fixed σ c i);
    none_void = λ rest never. by t.state refl rest never;
    holds = λ ne v k r lt. (sound.live (not_void t.state ne)).holds (point v) (point_fixed v k) r lt;
    void_holds = λ e v k. sound.void (ap is_void e) (point v) (point_fixed v k);
    calm = sound.kept.calm;
    busy = open_busy;
  }
    where
      by : (s : State) → t.state ≡ s → at_rest t.state ≡ true → ((σ : Ranges) → Consistent m lines σ → Inside σ limits → ⊥) → t.state ≡ Void
      by Settled e rest never = absurd (never (range_at t) (table_consistent e) (in_limits (settled_on e)))
      by Open e rest never = absurd (both_ways (at_rest t.state) (ap at_rest e) rest)
      by Void e rest never = e

-- ---- two tables with the same limits and lines
module _ (m : Meaning) where
  module _ (a b : Ranges) (c d : Lines) (t u : Table) (shown : Shows m a c t) (other : Shows m b d u) (limits : SameLimits a b) (lines : SameLines c d) where
    consistent_as : (σ : Ranges) → Consistent m c σ → Consistent m d σ
    consistent_as σ k = record { proper = k.proper; readings = k.readings; unchanged = λ l f. k.unchanged l (lines.back l f) }

    limits_as : (σ : Ranges) → Inside σ a → Inside σ b
    limits_as σ i r lt = subst (Within (σ r)) (limits r lt) (i r lt)

    -- what the first shows lies within what the second shows, and the second is not void
    shown_inside : t.state ≡ Settled → u.state ≡ Settled → Inside (range_at t) (range_at u)
    shown_inside e f = other.greatest (settled_on f) (range_at t) (consistent_as (range_at t) (shown.consistent e)) (limits_as (range_at t) (shown.in_limits (settled_on e)))

    not_both : t.state ≡ Settled → u.state ≡ Void → ⊥
    not_both e f = other.void_none f (range_at t) (consistent_as (range_at t) (shown.consistent e)) (limits_as (range_at t) (shown.in_limits (settled_on e)))

  pub same_rest : SameRest m
  same_rest a b c d t u shown other rt ru limits lines = by t.state u.state refl refl
    where
      limits_back : SameLimits b a
      limits_back r lt = sym (limits r lt)

      lines_back : SameLines d c
      lines_back = record { there = lines.back; back = lines.there }

      by : (s v : State) → t.state ≡ s → u.state ≡ v → Alike t u
      by Open v e f = absurd (both_ways (at_rest t.state) (ap at_rest e) rt)
      by Settled Open e f = absurd (both_ways (at_rest u.state) (ap at_rest f) ru)
      by Void Open e f = absurd (both_ways (at_rest u.state) (ap at_rest f) ru)
      by Settled Void e f = absurd (not_both a b c d t u shown other limits lines e f)
      by Void Settled e f = absurd (not_both b a d c u t other shown limits_back lines_back f e)
      by Void Void e f = inl (e, f)
      by Settled Settled e f = inr (e, f, λ r lt. range_same (range_at t r) (range_at u r) (shown_inside a b c d t u shown other limits lines e f r lt) (shown_inside b a d c u t other shown limits_back lines_back f e r lt))

module _ (m : Meaning) (laws : Laws m) where
  -- ---- after a history
  shown_after : (h : List Call) → ShowsAfter m h (after m h)
  shown_after h = shows m laws (after m h) (after_sound m laws h) (limits_of m h) (line_of h) (limits_after m h) (line_after m h)

  pub shows_after : (t : Table) (h : List Call) → t ≡ after m h → ShowsAfter m h t
  shows_after t h e = subst (ShowsAfter m h) (sym e) (shown_after h)

  same_history : (h k : List Call) → Rests m h → Rests m k → SameLimits (limits_of m h) (limits_of m k) → SameLines (line_of h) (line_of k) → Alike (after m h) (after m k)
  same_history h k rh rk limits lines = same_rest m (limits_of m h) (limits_of m k) (line_of h) (line_of k) (after m h) (after m k) (shown_after h) (shown_after k) rh rk limits lines

  -- ---- consequences

  -- settles change neither limits nor lines
  settles_limits : (bs : List ℕ) (h : List Call) (r : ℕ) → limits_of m (settles bs h) r ≡ limits_of m h r
  settles_limits [] h r = refl
  settles_limits (b ∷ bs) h r = settles_limits bs h r

  settles_lines : (bs : List ℕ) (h : List Call) (n : ℕ) → line_of (settles bs h) n ≡ line_of h n
  settles_lines [] h n = refl
  settles_lines (b ∷ bs) h n = settles_lines bs h n

  -- the same line at every place
  by_place : (h k : Lines) → ((n : ℕ) → h n ≡ k n) → SameLines h k
  by_place h k e = record {
    there = λ l f. record { place = f.place; here = sym (e f.place) ∙ f.here };
    back = λ l f. record { place = f.place; here = e f.place ∙ f.here };
  }

  lines_then : (h j k : Lines) → SameLines h j → SameLines j k → SameLines h k
  lines_then h j k a b = record { there = λ l f. b.there l (a.there l f); back = λ l f. a.back l (b.back l f) }

  -- a line struck, and entered again at any free place
  struck_off : (n : ℕ) (h : List Call) (k : ℕ) → k ≢ n → line_of (strike n ∷ h) k ≡ line_of h k
  struck_off n h k ne = cond-false (eqb n k) None (line_of h k) (ne_eqb n k (λ e. ne (sym e)))

  struck_here : (n : ℕ) (h : List Call) → line_of (strike n ∷ h) n ≡ None
  struck_here n h = cond-true (eqb n n) None (line_of h n) (eq-eqb n n refl)

  module _ (h : List Call) (n k : ℕ) (l : Line) (stood : line_of h n ≡ Some l) (lt : k < 64) (free : line_of (strike n ∷ h) k ≡ None) where
    abbrev left : List Call
    left = strike n ∷ h

    abbrev moved : List Call
    moved = enter k l ∷ left

    abbrev carried : ℕ → Bool
    carried p = (eqb k p && ltb p 64) && (passes_check l && not (is_some (line_of left p)))

    passes : passes_check l ≡ true
    passes = (after_sound m laws h).kept.formed.passes n l (line_after m h n ∙ stood)

    again : line_of moved k ≡ Some l
    again = cond-true (carried k) (Some l) (line_of left k)
        (and_from (eqb k k && ltb k 64) (passes_check l && not (is_some (line_of left k))) (and_from (eqb k k) (ltb k 64) (eq-eqb k k refl) (lt-ltb k 64 lt))
        (and_from (passes_check l) (not (is_some (line_of left k))) passes (ap (λ o. not (is_some o)) free)))

    moved_off : (p : ℕ) → p ≢ k → line_of moved p ≡ line_of left p
    moved_off p ne = cond-false (carried p) (Some l) (line_of left p) (and_left (eqb k p && ltb p 64) _ (and_left (eqb k p) (ltb p 64) (ne_eqb k p (λ e. ne (sym e)))))

    moved_lines : SameLines (line_of h) (line_of moved)
    moved_lines = record {
      there = λ j f. let p = f.place in ⊎_elim
          (λ (e : p ≡ n).
          let g : line_of h n ≡ Some j = subst (λ q. line_of h q ≡ Some j) e f.here in
          let same : l ≡ j = cc in
          subst (HasLine (line_of moved)) same (record { place = k; here = again }))
          (λ (ne : p ≢ n).
          let still : line_of left p ≡ Some j = struck_off n h p ne ∙ f.here in
          let off : p ≡ k → ⊥ = λ e. taken j (subst (λ q. line_of left q ≡ Some j) e still) in
          record { place = p; here = moved_off p off ∙ still })
          (cases_eq p n);
      back = λ j f. let p = f.place in ⊎_elim
          (λ (e : p ≡ k).
          let g : line_of moved k ≡ Some j = subst (λ q. line_of moved q ≡ Some j) e f.here in
          let a = again in
          let same : l ≡ j = cc in
          subst (HasLine (line_of h)) same (record { place = n; here = stood }))
          (λ (ne : p ≢ k).
          let still : line_of left p ≡ Some j = sym (moved_off p ne) ∙ f.here in
          let off : p ≡ n → ⊥ = λ e. gone j (subst (λ q. line_of left q ≡ Some j) e still) in
          record { place = p; here = sym (struck_off n h p off) ∙ still })
          (cases_eq p k);
    }
      where
        taken : (j : Line) → line_of left k ≡ Some j → ⊥
        taken j e = cc

        gone : (j : Line) → line_of left n ≡ Some j → ⊥
        gone j e = let o = struck_here n h in cc

    struck_and_entered_anywhere : (bs : List ℕ) → Rests m h → Rests m (settles bs moved) → Alike (after m h) (after m (settles bs moved))
    struck_and_entered_anywhere bs rh rk = same_history h (settles bs moved) rh rk
        (λ r _. sym (settles_limits bs moved r))
        (lines_then (line_of h) (line_of moved) (line_of (settles bs moved)) moved_lines (by_place (line_of moved) (line_of (settles bs moved)) (λ p. sym (settles_lines bs moved p))))

  -- ---- a step of an open sheet that does not make it void
  module _ (h : List Call) (is_open : (after m h).state ≡ Open) (live : (step m (after m h)).state ≢ Void) where
    abbrev t : Table
    t = after m h

    made : IsStep m t (step m t)
    made = step_words m t (after_sound m laws h).kept is_open

    left_some : (s : Triple) × Narrows made.line s made.place t (step m t)
    left_some = ⊎_elim
        (λ (v : NothingLeft made.line _ t × IsVoid (step m t)). absurd (live v.1.state))
        (λ v. (v.0, v.1.1.1))
        made.takes

    widens_none : Inside (range_at (step m t)) (range_at t)
    widens_none r lt = subst (λ a. Within a (range_at t r)) (sym (left_some.1.ranges r lt)) (gets_within made.line left_some.0 r (range_at t r))

    -- where no range has changed, due are those that were, but the line that was taken
    takes_one : ((r : ℕ) → r < 32 → range_at (step m t) r ≡ range_at t r) → DueExactly (step m t) (λ k. (has t.due k ≡ true) × (k ≢ made.place))
    takes_one same k lt = (
      (λ d. ⊎_elim (λ a. a) (λ (c : NamesChanged t (step m t) k). absurd (c.changed (same c.register (below k c)))) ((left_some.1.due k lt).0 d)),
      (λ a. (left_some.1.due k lt).1 (inl a)),
    )
      where
        below : (k : ℕ) (c : NamesChanged t (step m t) k) → c.register < 32
        below k c =
            let regs = registers c.line ((after_sound m laws h).kept.formed.passes k c.line (sym (ap (λ ls. line_in ls k) made.lines) ∙ c.there)) in
            ⊎_elim
            (λ (e : c.line.x ≡ c.register). subst (λ j. j < 32) e regs.x)
            (λ yz. ⊎_elim (λ (e : c.line.y ≡ c.register). subst (λ j. j < 32) e regs.y) (λ (e : c.line.z ≡ c.register). subst (λ j. j < 32) e regs.z) yz)
            c.names

  pub consequences_kept : Consequences m
  consequences_kept = record {
    same_rest = same_history;
    declined = λ h k e. called_declined m k (after m h) e;
    any_budgets = λ h bs cs rb rc. same_history (settles bs h) (settles cs h) rb rc
        (λ r _. settles_limits bs h r ∙ sym (settles_limits cs h r))
        (by_place (line_of (settles bs h)) (line_of (settles cs h)) (λ n. settles_lines bs h n ∙ sym (settles_lines cs h n)));
    struck_and_entered = λ h bs n k l stood lt free rh rk. struck_and_entered_anywhere h n k l stood lt free bs rh rk;
    unchanged_step = λ l t p. unchanged_alone m laws l (registers l p) t;
    step_unchanged = λ l t u p wide. alone_unchanged m laws l (registers l p) t wide u;
    narrower = λ h e live. widens_none h e live;
    fewer = λ h e live same. let s = made h e live in (s.place, (s.lowest.1, takes_one h e live same));
  }

pub promise_kept : ForEveryCatalogue
promise_kept m laws = record { shows = shown_after m laws; alike = same_rest m }
