-- The words of a step, a limit, an enter and a strike are enough: each keeps the invariant.
use Rattle.std.proofs.Common.{◌≡◌, ◌≢◌, ℕ, ◌<◌, Bool, true, false, cond, inl, inr, get_or, is_some, Some, None, Option, sym, refl, ap, ◌∙◌, subst, ⊎_elim, arith}
use lib.Signed.{le_z}
use Rattle.std.proofs.lemmas.Int.{ints}
use Rattle.std.proofs.lemmas.List.{get_or-set_same, get_or-set_other}
use Rattle.std.proofs.lemmas.Bool.{both_ways, cases_Bool, cases_eq, eq-eqb, ne_eqb, and_parts}
use Rattle.catalogue.proofs.Rising.{le_true}
use Rattle.catalogue.specs.declared.types.Range.{Range}
use Rattle.catalogue.specs.declared.types.Triple.{Triple}
use Rattle.catalogue.specs.Meanings.{Meaning, Laws, all_readings}
use Rattle.catalogue.specs.Ranges.{Proper, Within, WithinO, empty, holds_all, meet}
use Rattle.sheet.specs.declared.lines.Line.{Line}
use Rattle.sheet.specs.declared.table.State.{State}
use Rattle.sheet.specs.declared.table.State.TheVariants.{Settled, Open, Void}
use Rattle.sheet.specs.declared.table.Table.{Table}
use Rattle.sheet.specs.Boards.{names}
use Rattle.sheet.specs.Calls.{is_void}
use Rattle.sheet.specs.Places.{has, is_none}
use Rattle.sheet.specs.Rules.{line_at, limits_at, no_range, range_at, ranges_of}
use Rattle.sheet.specs.Words.{AtLimits, IsCut, IsEnter, IsLimit, IsStep, IsStrike, IsVoid, Names, NamesChanged, Narrows, NothingLeft, SettledOrOpen, Tightens, common_if, gets}
use Rattle.sheet.proofs.Kept.{Kept, standing_place}
use Rattle.sheet.proofs.Meets.{empty_from, meet_left, meet_right, proper_from, same_or_not, within_meet, within_self, within_then}
use Rattle.sheet.proofs.Wordings.{Registers, is_named, named_is, registers}
use Rattle.promise.specs.Promise.{Ranges, given_to}
use Rattle.promise.proofs.Sounds.{Fixed, Live, Sound}
use Rattle.promise.proofs.Unmoving.{Unmoved, gets_other, gets_within, gets_x, gets_y, gets_z, unmoved_same, within_gets, within_some}

-- ---- states
settled_or_open : (b : Bool) → is_void (cond b Settled Open) ≡ false
settled_or_open true = refl
settled_or_open false = refl

live_state : (u : Table) → SettledOrOpen u → is_void u.state ≡ false
live_state u e = ap is_void e ∙ settled_or_open (is_none u.due)

not_void : (s : State) → is_void s ≡ false → s ≢ Void
not_void s h e = both_ways (is_void s) h (ap is_void e)

-- ---- the registers of a line that stands
named_below : (l : Line) → Registers l → (q : ℕ) → Names l q → q < 32
named_below l r q n = ⊎_elim
    (λ (e : l.x ≡ q). subst (λ j. j < 32) e r.x)
    (λ yz. ⊎_elim (λ (e : l.y ≡ q). subst (λ j. j < 32) e r.y) (λ (e : l.z ≡ q). subst (λ j. j < 32) e r.z) yz)
    n

-- a line that stands, whose registers keep their ranges, is moved no more than before
module _ (m : Meaning) (t u : Table) where
  unmoved_on : (l : Line) → ((q : ℕ) → Names l q → range_at u q ≡ range_at t q) → Unmoved m (range_at t) l → Unmoved m (range_at u) l
  unmoved_on l same = unmoved_same m (range_at t) (range_at u) l (sym (same l.x (inl refl))) (sym (same l.y (inr (inl refl)))) (sym (same l.z (inr (inr refl))))

  -- due are at least the lines that name a register whose range has changed
  module _ (kept : Kept u) (due : (k : ℕ) → k < 64 → NamesChanged t u k → has u.due k ≡ true) (inside : (q : ℕ) → q < 32 → Within (range_at u q) (range_at t q)) where
    quiet_same : (k : ℕ) (l : Line) → line_at u k ≡ Some l → has u.due k ≡ false → (q : ℕ) → Names l q → range_at u q ≡ range_at t q
    quiet_same k l here d q n =
        let regs = registers l (kept.formed.passes k l here) in
        ⊎_elim (λ e. e)
        (λ (ne : range_at u q ≢ range_at t q). absurd (both_ways (has u.due k) d
        (due k (standing_place u kept.formed k (ap is_some here)) (record { line = l; register = q; there = here; names = n; changed = ne }))))
        (same_or_not (range_at t q) (range_at u q) (inside q (named_below l regs q n)))

-- ---- a step
module _ (m : Meaning) (laws : Laws m) (t u : Table) (sound : Sound m t) (kept : Kept u) (step : IsStep m t u) where
  abbrev l : Line
  l = step.line

  abbrev out : Option Triple
  out = m.narrowed l.operation.kind l.operation.modes (ranges_of l t)

  on : Live m t
  on = sound.live (ap is_void step.open_before)

  regs : Registers l
  regs = registers l (sound.kept.formed.passes step.place l step.there)

  lines_same : (k : ℕ) → line_at u k ≡ line_at t k
  lines_same k = ap (λ ls. get_or ls k None) step.lines

  limits_same : (r : ℕ) → limits_at u r ≡ limits_at t r
  limits_same r = ap (λ ls. get_or ls r no_range) step.limits

  back : (σ : Ranges) → Fixed m (limits_at u) (line_at u) σ → Fixed m (limits_at t) (line_at t) σ
  back σ c = record {
    proper = c.proper;
    within = λ r lt. subst (Within (σ r)) (limits_same r) (c.within r lt);
    unmoved = λ n j e. c.unmoved n j (lines_same n ∙ e);
  }

  -- the heart: what narrowing answers keeps every consistent set
  bound : (σ : Ranges) → Fixed m (limits_at t) (line_at t) σ → WithinO (Some (given_to l σ)) out
  bound σ c =
      let k = on.holds σ c in
      let st = laws.steady l.operation.kind l.operation.modes (given_to l σ) (ranges_of l t) (k l.x regs.x, k l.y regs.y, k l.z regs.z) in
      within_some (given_to l σ) (m.narrowed l.operation.kind l.operation.modes (given_to l σ)) out (c.unmoved step.place l step.there) st

  in_gets : (σ : Ranges) → Fixed m (limits_at t) (line_at t) σ → (s : Triple) → out ≡ Some s → (q : ℕ) → q < 32 → Within (σ q) (gets l s q (range_at t q))
  in_gets σ c s e q lt =
      let b = subst (WithinO (Some (given_to l σ))) e (bound σ c) in
      within_gets l s q (range_at t q) (σ q) (on.holds σ c q lt)
      (λ i. subst (λ j. Within (σ j) s.x) i b.0)
      (λ i. subst (λ j. Within (σ j) s.y) i b.1)
      (λ i. subst (λ j. Within (σ j) s.z) i b.2)

  proper_outer : (a b : Range) → Within a b → Proper a → Proper b
  proper_outer a b w p = omega (arith, ints)

  none_left : (o : Option Triple) → out ≡ o → NothingLeft l o t → (σ : Ranges) → Fixed m (limits_at t) (line_at t) σ → ⊥
  none_left None e h σ c = subst (WithinO (Some (given_to l σ))) e (bound σ c)
  none_left (Some s) e h σ c =
      let lt = named_below l regs h.0 h.1.0 in
      h.1.1 (proper_outer (σ h.0) _ (in_gets σ c s e h.0 lt) (c.proper h.0 lt))

  limits_proper : (r : ℕ) → r < 32 → Proper (limits_at u r)
  limits_proper r lt = subst Proper (sym (limits_same r)) (sound.proper r lt)

  limits_readings : (r : ℕ) → r < 32 → Within (limits_at u r) (all_readings m)
  limits_readings r lt = subst (λ a. Within a (all_readings m)) (sym (limits_same r)) (sound.readings r lt)

  void_after : NothingLeft l out t → IsVoid u → Sound m u
  void_after h v = record {
    kept = kept;
    proper = limits_proper;
    readings = limits_readings;
    live = λ e. absurd (both_ways (is_void u.state) e (ap is_void v.state));
    void = λ _ σ c. none_left out refl h σ (back σ c);
  }

  module _ (s : Triple) (e : out ≡ Some s) (left : NothingLeft l out t → ⊥) (n : Narrows l s step.place t u) where
    inside : (q : ℕ) → q < 32 → Within (range_at u q) (range_at t q)
    inside q lt = subst (λ a. Within a (range_at t q)) (sym (n.ranges q lt)) (gets_within l s q (range_at t q))

    -- a register that the line names is left a reading; another keeps its range
    got_proper : (q : ℕ) → q < 32 → Proper (gets l s q (range_at t q))
    got_proper q lt = ⊎_elim
        (λ (i : names q (Some l) ≡ true). ⊎_elim
        (λ d. absurd (left (subst (λ o. NothingLeft l o t) (sym e) (q, (named_is l q i, empty_from _ d)))))
        (λ d. proper_from _ d)
        (cases_Bool (empty (gets l s q (range_at t q)))))
        (λ (i : names q (Some l) ≡ false). subst Proper (sym (gets_other l s q (range_at t q) (λ h. both_ways (names q (Some l)) i (is_named l q h)))) (on.proper q lt))
        (cases_Bool (names q (Some l)))

    same_quiet : (k : ℕ) (j : Line) → line_at u k ≡ Some j → has u.due k ≡ false → (q : ℕ) → Names j q → range_at u q ≡ range_at t q
    same_quiet = quiet_same m t u kept (λ k lt c. (n.due k lt).1 (inr c)) inside

    -- the line taken, where it is not due again: its ranges lie within its results
    own_quiet : ((q : ℕ) → Names l q → range_at u q ≡ range_at t q) → Unmoved m (range_at t) l
    own_quiet same = subst (WithinO (Some (given_to l (range_at t)))) (sym e) (
      at l.x (inl refl) regs.x s.x (gets_x l s (range_at t l.x)),
      at l.y (inr (inl refl)) regs.y s.y (gets_y l s (range_at t l.y)),
      at l.z (inr (inr refl)) regs.z s.z (gets_z l s (range_at t l.z)),
    )
      where
        at : (q : ℕ) → Names l q → q < 32 → (a : Range) → Within (gets l s q (range_at t q)) a → Within (range_at t q) a
        at q h lt a w = subst (λ b. Within b a) (sym (n.ranges q lt) ∙ same q h) w

    live_after : Live m u
    live_after = record {
      holds = λ σ c q lt. subst (Within (σ q)) (sym (n.ranges q lt)) (in_gets σ (back σ c) s e q lt);
      proper = λ q lt. subst Proper (sym (n.ranges q lt)) (got_proper q lt);
      within = λ q lt. subst (Within (range_at u q)) (sym (limits_same q)) (within_then (range_at u q) (range_at t q) (limits_at t q) (inside q lt) (on.within q lt));
      quiet = λ k j here d.
          let same = same_quiet k j here d in
          let there : line_at t k ≡ Some j = sym (lines_same k) ∙ here in
          unmoved_on m t u j same (⊎_elim
          (λ (i : k ≡ step.place).
          let mine : l ≡ j = let h = sym (step.there) ∙ subst (λ q. line_at t q ≡ Some j) i there in cc in
          subst (Unmoved m (range_at t)) mine (own_quiet (λ q h. same q (subst (λ v. Names v q) mine h))))
          (λ (ne : k ≢ step.place). on.quiet k j there (⊎_elim
          (λ w. absurd (both_ways (has u.due k) d ((n.due k (standing_place u kept.formed k (ap is_some here))).1 (inl (w, ne)))))
          (λ w. w)
          (cases_Bool (has t.due k))))
          (cases_eq k step.place));
    }

    narrowed_after : Sound m u
    narrowed_after = record {
      kept = kept;
      proper = limits_proper;
      readings = limits_readings;
      live = λ _. live_after;
      void = λ h. absurd (both_ways (is_void u.state) (live_state u n.state) h);
    }

  pub step_sound : Sound m u
  step_sound = ⊎_elim
      (λ (h : NothingLeft l out t × IsVoid u). void_after h.0 h.1)
      (λ (h : (s : Triple) × ((out ≡ Some s) × ((NothingLeft l out t → ⊥) × Narrows l s step.place t u))). narrowed_after h.0 h.1.0 h.1.1.0 h.1.1.1)
      step.takes

-- ---- a return to the limits
module _ (m : Meaning) (u : Table) (kept : Kept u) (proper : (r : ℕ) → r < 32 → Proper (limits_at u r)) (readings : (r : ℕ) → r < 32 → Within (limits_at u r) (all_readings m)) (back : AtLimits u) where
  at_limits : (r : ℕ) → range_at u r ≡ limits_at u r
  at_limits r = ap (λ ls. get_or ls r no_range) back.ranges

  pub limits_sound : Sound m u
  limits_sound = record {
    kept = kept;
    proper = proper;
    readings = readings;
    live = λ _. record {
      holds = λ σ c r lt. subst (Within (σ r)) (sym (at_limits r)) (c.within r lt);
      proper = λ r lt. subst Proper (sym (at_limits r)) (proper r lt);
      within = λ r lt. subst (λ a. Within a (limits_at u r)) (sym (at_limits r)) (within_self (limits_at u r));
      quiet = λ k l here d. absurd (both_ways (has u.due k) d ((back.due k (standing_place u kept.formed k (ap is_some here))).1 (ap is_some here)));
    };
    void = λ h. absurd (both_ways (is_void u.state) (live_state u back.state) h);
  }

-- ---- a limit
inside_true : (b a : Range) → holds_all a b ≡ true → Within b a
inside_true b a h =
    let p = and_parts (le_z a.low b.low) (le_z b.high a.high) h in
    (le_true _ _ p.0, le_true _ _ p.1)

module _ (m : Meaning) (r : ℕ) (b : Range) (t u : Table) (sound : Sound m t) (kept : Kept u) (is : IsLimit r b t u) (lr : r < 32) (pb : Proper b) (rb : Within b (all_readings m)) where
  lines_kept : (k : ℕ) → line_at u k ≡ line_at t k
  lines_kept k = ap (λ ls. get_or ls k None) is.lines

  limit_here : limits_at u r ≡ b
  limit_here = ap (λ ls. get_or ls r no_range) is.limits ∙ get_or-set_same t.limits r b no_range (omega (arith, sound.kept.formed.limits))

  limit_other : (q : ℕ) → q ≢ r → limits_at u q ≡ limits_at t q
  limit_other q ne = ap (λ ls. get_or ls q no_range) is.limits ∙ get_or-set_other t.limits r q b no_range ne

  each_limit : (P : ℕ → Range → Type 0) → P r b → ((q : ℕ) → q ≢ r → P q (limits_at t q)) → (q : ℕ) → P q (limits_at u q)
  each_limit P here other q = ⊎_elim
      (λ (e : q ≡ r). subst (λ j. P j (limits_at u j)) (sym e) (subst (P r) (sym limit_here) here))
      (λ (ne : q ≢ r). subst (P q) (sym (limit_other q ne)) (other q ne))
      (cases_eq q r)

  new_proper : (q : ℕ) → q < 32 → Proper (limits_at u q)
  new_proper = each_limit (λ q a. q < 32 → Proper a) (λ _. pb) (λ q _. sound.proper q)

  new_readings : (q : ℕ) → q < 32 → Within (limits_at u q) (all_readings m)
  new_readings = each_limit (λ q a. q < 32 → Within a (all_readings m)) (λ _. rb) (λ q _. sound.readings q)

  module _ (inside : Within b (limits_at t r)) where
    fixed_back : (σ : Ranges) → Fixed m (limits_at u) (line_at u) σ → Fixed m (limits_at t) (line_at t) σ
    fixed_back σ c = record {
      proper = c.proper;
      within = λ q lt. each_limit (λ q a. Within (σ q) a → Within (σ q) (limits_at t q)) (λ w. within_then (σ r) b (limits_at t r) w inside) (λ q _ w. w) q (c.within q lt);
      unmoved = λ n j e. c.unmoved n j (lines_kept n ∙ e);
    }

    void_stays : t.state ≡ Void → u.state ≡ Void → Sound m u
    void_stays e f = record {
      kept = kept;
      proper = new_proper;
      readings = new_readings;
      live = λ h. absurd (both_ways (is_void u.state) h (ap is_void f));
      void = λ _ σ c. sound.void (ap is_void e) σ (fixed_back σ c);
    }

    module _ (live : t.state ≢ Void) where
      was : Live m t
      was = sound.live (by t.state live)
        where
          by : (s : State) → s ≢ Void → is_void s ≡ false
          by Settled h = refl
          by Open h = refl
          by Void h = absurd (h refl)

      in_both : (σ : Ranges) → Fixed m (limits_at u) (line_at u) σ → Within (σ r) (meet (range_at t r) b)
      in_both σ c = within_meet (σ r) (range_at t r) b (was.holds σ (fixed_back σ c) r lr) (subst (Within (σ r)) limit_here (c.within r lr))

      void_made : (Proper (meet (range_at t r) b) → ⊥) → IsVoid u → Sound m u
      void_made h v = record {
        kept = kept;
        proper = new_proper;
        readings = new_readings;
        live = λ e. absurd (both_ways (is_void u.state) e (ap is_void v.state));
        void = λ _ σ c. h (outer (σ r) _ (in_both σ c) (c.proper r lr));
      }
        where
          outer : (a b : Range) → Within a b → Proper a → Proper b
          outer a b w p = omega (arith, ints)

      module _ (p : Proper (meet (range_at t r) b)) (cut : IsCut r b t u) where
        -- the cut register has what its range and its limits have in common; another keeps its range
        here : range_at u r ≡ meet b (range_at t r)
        here = cut.ranges r lr ∙ ap (λ x. common_if x b (range_at t r)) (eq-eqb r r refl)

        other : (q : ℕ) → q < 32 → q ≢ r → range_at u q ≡ range_at t q
        other q lt ne = cut.ranges q lt ∙ ap (λ x. common_if x b (range_at t q)) (ne_eqb r q (λ e. ne (sym e)))

        each_range : (P : ℕ → Range → Type 0) → P r (meet b (range_at t r)) → ((q : ℕ) → q ≢ r → P q (range_at t q)) → (q : ℕ) → q < 32 → P q (range_at u q)
        each_range P at_r at_other q lt = ⊎_elim
            (λ (e : q ≡ r). subst (λ j. P j (range_at u j)) (sym e) (subst (P r) (sym here) at_r))
            (λ (ne : q ≢ r). subst (P q) (sym (other q lt ne)) (at_other q ne))
            (cases_eq q r)

        proper_turned : (a c : Range) → Proper (meet a c) → Proper (meet c a)
        proper_turned a c h = outer (meet a c) (meet c a) (within_meet (meet a c) c a (meet_right a c) (meet_left a c)) h
          where
            outer : (a b : Range) → Within a b → Proper a → Proper b
            outer a b w p = omega (arith, ints)

        cut_inside : (q : ℕ) → q < 32 → Within (range_at u q) (range_at t q)
        cut_inside = each_range (λ q a. Within a (range_at t q)) (meet_right b (range_at t r)) (λ q _. within_self (range_at t q))

        cut_sound : Sound m u
        cut_sound = record {
          kept = kept;
          proper = new_proper;
          readings = new_readings;
          live = λ _. record {
            holds = λ σ c q lt. each_range (λ q a. q < 32 → Within (σ q) a)
                (λ _. let w = in_both σ c in within_meet (σ r) b (range_at t r) (within_then (σ r) _ b w (meet_right (range_at t r) b)) (within_then (σ r) _ (range_at t r) w (meet_left (range_at t r) b)))
                (λ q _ l. was.holds σ (fixed_back σ c) q l) q lt lt;
            proper = λ q lt. each_range (λ q a. q < 32 → Proper a) (λ _. proper_turned (range_at t r) b p) (λ q _ l. was.proper q l) q lt lt;
            within = λ q lt. ⊎_elim
                (λ (e : q ≡ r). subst (λ j. Within (range_at u j) (limits_at u j)) (sym e) (subst (Within (range_at u r)) (sym limit_here) (subst (λ a. Within a b) (sym here) (meet_left b (range_at t r)))))
                (λ (ne : q ≢ r). subst (Within (range_at u q)) (sym (limit_other q ne)) (subst (λ a. Within a (limits_at t q)) (sym (other q lt ne)) (was.within q lt)))
                (cases_eq q r);
            quiet = λ k j at d.
                let same = quiet_same m t u kept (λ i lt c. (cut.due i lt).1 (inr c)) cut_inside k j at d in
                unmoved_on m t u j same (was.quiet k j (sym (lines_kept k) ∙ at) (⊎_elim
                (λ w. absurd (both_ways (has u.due k) d ((cut.due k (standing_place u kept.formed k (ap is_some at))).1 (inl w))))
                (λ w. w)
                (cases_Bool (has t.due k))));
          };
          void = λ h. absurd (both_ways (is_void u.state) (live_state u cut.state) h);
        }

    tightened : Tightens r b t u → Sound m u
    tightened h = ⊎_elim
        (λ (v : (t.state ≡ Void) × (u.state ≡ Void) × (u.ranges ≡ t.ranges) × (u.due ≡ t.due)). void_stays v.0 v.1)
        (λ k. ⊎_elim
        (λ (v : (t.state ≢ Void) × (Proper (meet (range_at t r) b) → ⊥) × IsVoid u). void_made v.0 v.1 v.2)
        (λ (v : (t.state ≢ Void) × Proper (meet (range_at t r) b) × IsCut r b t u). cut_sound v.0 v.1 v.2)
        k)
        h

  pub limit_sound : Sound m u
  limit_sound = ⊎_elim
      (λ e. tightened (inside_true b (limits_at t r) e) (is.inside e))
      (λ e. limits_sound m u kept new_proper new_readings (is.outside e))
      (cases_Bool (holds_all (limits_at t r) b))

-- ---- an enter at a free place, and a strike
module _ (m : Meaning) (t u : Table) (sound : Sound m t) (kept : Kept u) (limits : u.limits ≡ t.limits) where
  same_limits : (r : ℕ) → limits_at u r ≡ limits_at t r
  same_limits r = ap (λ ls. get_or ls r no_range) limits

  still_proper : (r : ℕ) → r < 32 → Proper (limits_at u r)
  still_proper r lt = subst Proper (sym (same_limits r)) (sound.proper r lt)

  still_readings : (r : ℕ) → r < 32 → Within (limits_at u r) (all_readings m)
  still_readings r lt = subst (λ a. Within a (all_readings m)) (sym (same_limits r)) (sound.readings r lt)

  pub strike_sound : (n : ℕ) → IsStrike n t u → Sound m u
  strike_sound n is = limits_sound m u kept still_proper still_readings is.returns

  module _ (n : ℕ) (l : Line) (is : IsEnter n l t u) (free : line_at t n ≡ None) where
    other_line : (k : ℕ) → k ≢ n → line_at u k ≡ line_at t k
    other_line k ne = ap (λ ls. get_or ls k None) is.lines ∙ get_or-set_other t.lines n k (Some l) None ne

    same_range : (r : ℕ) → range_at u r ≡ range_at t r
    same_range r = ap (λ ls. get_or ls r no_range) is.ranges

    without_it : (σ : Ranges) → Fixed m (limits_at u) (line_at u) σ → Fixed m (limits_at t) (line_at t) σ
    without_it σ c = record {
      proper = c.proper;
      within = λ r lt. subst (Within (σ r)) (same_limits r) (c.within r lt);
      unmoved = λ k j e. ⊎_elim
          (λ (i : k ≡ n). let h = sym free ∙ subst (λ q. line_at t q ≡ Some j) i e in absurd cc)
          (λ (ne : k ≢ n). c.unmoved k j (other_line k ne ∙ e))
          (cases_eq k n);
    }

    pub enter_sound : Sound m u
    enter_sound = by t.state refl
      where
        live : (s : State) → t.state ≡ s → s ≢ Void → is_void s ≡ false → Sound m u
        live s e ne v =
            let now = is.live (λ h. ne (sym e ∙ h)) in
            let was = sound.live (ap is_void e ∙ v) in
            record {
              kept = kept;
              proper = still_proper;
              readings = still_readings;
              live = λ _. record {
                holds = λ σ c r lt. subst (Within (σ r)) (sym (same_range r)) (was.holds σ (without_it σ c) r lt);
                proper = λ r lt. subst Proper (sym (same_range r)) (was.proper r lt);
                within = λ r lt. subst (λ a. Within a (limits_at u r)) (sym (same_range r)) (subst (Within (range_at t r)) (sym (same_limits r)) (was.within r lt));
                quiet = λ k j at d.
                    let lt = standing_place u kept.formed k (ap is_some at) in
                    ⊎_elim
                    (λ (i : k ≡ n). absurd (both_ways (has u.due k) d ((now.1 k lt).1 (inr i))))
                    (λ (off : k ≢ n). unmoved_on m t u j (λ q _. same_range q) (was.quiet k j (sym (other_line k off) ∙ at) (⊎_elim
                    (λ w. absurd (both_ways (has u.due k) d ((now.1 k lt).1 (inl w))))
                    (λ w. w)
                    (cases_Bool (has t.due k)))))
                    (cases_eq k n);
              };
              void = λ h. absurd (both_ways (is_void u.state) (ap is_void now.0) h);
            }

        by : (s : State) → t.state ≡ s → Sound m u
        by Settled e = live Settled e (λ h. absurd cc) refl
        by Open e = live Open e (λ h. absurd cc) refl
        by Void e = record {
          kept = kept;
          proper = still_proper;
          readings = still_readings;
          live = λ h. absurd (both_ways (is_void u.state) h (ap is_void (is.void e).0));
          void = λ _ σ c. sound.void (ap is_void e) σ (without_it σ c);
        }
