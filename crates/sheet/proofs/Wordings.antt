-- What the rules make of a table, in words: a cut, a step, a settle, a limit, an enter and a strike.
use Rattle.std.proofs.Common.{◌≡◌, ◌≢◌, ℕ, zero, suc, ◌+◌, ◌<◌, Bool, true, false, not, ◌&&◌, ◌||◌, ◌⊎◌, inl, inr, eqb, ltb, length, get_or, set, is_some, Some, None, Option, sym, refl, ap, ◌∙◌, subst, ⊎_elim, arith}
use Rattle.std.proofs.lemmas.Int.{ints}
use Rattle.std.proofs.lemmas.List.{get_or-set_same, get_or-set_other, length-set}
use Rattle.std.proofs.lemmas.Bool.{both_ways, cases_eq, cond_both, eq-eqb, eqb-true, ne_eqb, or_cases, or_left, or_right, and_parts, ltb-true}
use Rattle.catalogue.specs.declared.types.Range.{Range}
use Rattle.catalogue.specs.declared.types.Triple.{Triple}
use Rattle.catalogue.specs.Meanings.{Meaning}
use Rattle.catalogue.specs.Ranges.{Proper, Within, empty, holds_all, meet, smaller}
use Rattle.catalogue.proofs.Laws.{range_same}
use Rattle.sheet.specs.declared.lines.Line.{Line}
use Rattle.sheet.specs.declared.table.Event.TheVariants.{Tightened, Loosened, Entered, Struck, Step}
use Rattle.sheet.specs.declared.table.State.{State}
use Rattle.sheet.specs.declared.table.State.TheVariants.{Settled, Open, Void}
use Rattle.sheet.specs.declared.table.Table.{Table}
use Rattle.sheet.specs.Boards.{names, places_naming}
use Rattle.sheet.specs.Histories.{passes_check}
use Rattle.sheet.specs.Places.{has, lowest, without}
use Rattle.sheet.specs.Rules.{after_steps, at_rest, cut, cut_table, cuts, limits_at, line_at, no_range, range_at, reaction, rest_or_open, results_of, settling, stands, step, step_at, step_of_line, table_after_enter, table_after_limit, table_after_strike, table_at_limits, table_in_limits, table_or_void, table_with_due, table_with_line, table_with_range, table_without_line, then, void_table}
use Rattle.sheet.specs.Words.{AreSteps, AtLimits, IsEnter, IsLimit, IsSettle, IsStep, IsStrike, IsVoid, Names, NamesChanged, Narrows, Takes, Tightens, common_if, gets}
use Rattle.sheet.proofs.Boards.{naming_at, none_from, standing_at}
use Rattle.sheet.proofs.Kept.{Formed, Kept, formed_cut, kept_step, named_stands, standing_place}
use Rattle.sheet.proofs.Meets.{empty_from, meet_comm, meet_left, meet_right, meet_whole, proper_from, same_or_not, smaller_differs, within_self, within_then}
use Rattle.sheet.proofs.PlaceSets.{lowest_in, lowest_some, none_has, union_has, with_has, without_from, without_has}

-- ---- a line and the registers that it names
pub named_is : (l : Line) (r : ℕ) → names r (Some l) ≡ true → Names l r
named_is l r e = ⊎_elim
    (λ x. inl (eqb-true l.x r x))
    (λ yz. ⊎_elim (λ y. inr (inl (eqb-true l.y r y))) (λ z. inr (inr (eqb-true l.z r z))) (or_cases (eqb l.y r) (eqb l.z r) yz))
    (or_cases (eqb l.x r) (eqb l.y r || eqb l.z r) e)

pub is_named : (l : Line) (r : ℕ) → Names l r → names r (Some l) ≡ true
is_named l r h = ⊎_elim
    (λ x. or_left (eqb l.x r) _ (eq-eqb l.x r x))
    (λ yz. or_right (eqb l.x r) _ (⊎_elim (λ y. or_left (eqb l.y r) _ (eq-eqb l.y r y)) (λ z. or_right (eqb l.y r) _ (eq-eqb l.z r z)) yz))
    h

-- ---- one table made narrower: its lines stay, its ranges lie within what they were, and due are those that were, and those with a line that names a changed register
record Narrower (t u : Table) : Type 0 where
  limits : u.limits ≡ t.limits
  lines : u.lines ≡ t.lines
  inside : (q : ℕ) → Within (range_at u q) (range_at t q)
  from : (k : ℕ) → k < 64 → has u.due k ≡ true → (has t.due k ≡ true) ⊎ NamesChanged t u k
  to : (k : ℕ) → k < 64 → (has t.due k ≡ true) ⊎ NamesChanged t u k → has u.due k ≡ true

narrower_self : (t : Table) → Narrower t t
narrower_self t = record {
  limits = refl;
  lines = refl;
  inside = λ q. within_self (range_at t q);
  from = λ k lt d. inl d;
  to = λ k lt. λ h. ⊎_elim (λ d. d) (λ (c : NamesChanged t t k). absurd (c.changed refl)) h;
}

narrower_then : (t u v : Table) → Narrower t u → Narrower u v → Narrower t v
narrower_then t u v a b = record {
  limits = b.limits ∙ a.limits;
  lines = b.lines ∙ a.lines;
  inside = λ q. within_then (range_at v q) (range_at u q) (range_at t q) (b.inside q) (a.inside q);
  from = λ k lt d. ⊎_elim
      (λ (h : has u.due k ≡ true). ⊎_elim (λ e. inl e) (λ c. inr (early k c)) (a.from k lt h))
      (λ (c : NamesChanged u v k). inr (late k c))
      (b.from k lt d);
  to = λ k lt h. ⊎_elim
      (λ (e : has t.due k ≡ true). b.to k lt (inl (a.to k lt (inl e))))
      (λ (c : NamesChanged t v k). ⊎_elim
      (λ (same : range_at u c.register ≡ range_at t c.register).
      b.to k lt (inr (record { line = c.line; register = c.register; there = c.there; names = c.names; changed = λ e. c.changed (e ∙ same) })))
      (λ (differs : range_at u c.register ≢ range_at t c.register).
      b.to k lt (inl (a.to k lt (inr (record { line = c.line; register = c.register; there = sym (stays u v b.lines k) ∙ c.there; names = c.names; changed = differs })))))
      (same_or_not (range_at t c.register) (range_at u c.register) (a.inside c.register)))
      h;
}
  where
    stays : (u v : Table) → v.lines ≡ u.lines → (k : ℕ) → line_at v k ≡ line_at u k
    stays u v e k = ap (λ ls. get_or ls k None) e

    early : (k : ℕ) → NamesChanged t u k → NamesChanged t v k
    early k c = record {
      line = c.line;
      register = c.register;
      there = stays u v b.lines k ∙ c.there;
      names = c.names;
      changed = λ e. c.changed (range_same _ _ (a.inside c.register) (subst (λ r. Within r (range_at u c.register)) e (b.inside c.register)));
    }

    late : (k : ℕ) → NamesChanged u v k → NamesChanged t v k
    late k c = record {
      line = c.line;
      register = c.register;
      there = c.there;
      names = c.names;
      changed = λ e. c.changed (range_same _ _ (b.inside c.register) (subst (Within (range_at u c.register)) (sym e) (a.inside c.register)));
    }

-- ---- a cut of register r's range to what it has in common with b
record Cut (r : ℕ) (b : Range) (t u : Table) : Type 0 where
  narrower : Narrower t u
  here : range_at u r ≡ meet (range_at t r) b
  other : (q : ℕ) → q ≢ r → range_at u q ≡ range_at t q

module _ (r : ℕ) (lt : r < 32) (b : Range) (t : Table) (f : Formed t) where
  abbrev old : Range
  old = range_at t r

  abbrev new : Range
  new = meet old b

  in_table : r < length t.ranges
  in_table = let e = f.ranges in omega arith

  at_r : range_at (table_with_range r new t) r ≡ new
  at_r = get_or-set_same t.ranges r new no_range in_table

  at_other : (q : ℕ) → q ≢ r → range_at (table_with_range r new t) q ≡ range_at t q
  at_other q ne = get_or-set_other t.ranges r q new no_range ne

  made_smaller : smaller new old ≡ true → Cut r b t (table_with_range r new t)
  made_smaller e = record {
    narrower = record {
      limits = refl;
      lines = refl;
      inside = λ q. ⊎_elim
          (λ (i : q ≡ r). subst (λ j. Within (range_at (table_with_range r new t) j) (range_at t j)) (sym i) (subst (λ v. Within v old) (sym at_r) (meet_left old b)))
          (λ ne. subst (λ v. Within v (range_at t q)) (sym (at_other q ne)) (within_self (range_at t q)))
          (cases_eq q r);
      from = λ k h d. ⊎_elim (λ e. inl e)
          (λ (n : has (places_naming r t.lines) k ≡ true). inr (named k h n))
          (or_cases (has t.due k) (has (places_naming r t.lines) k) (sym (union_has t.due (places_naming r t.lines) k h) ∙ d));
      to = λ k h c. union_has t.due (places_naming r t.lines) k h ∙ ⊎_elim
          (λ (d : has t.due k ≡ true). or_left (has t.due k) _ d)
          (λ (c : NamesChanged t (table_with_range r new t) k). or_right (has t.due k) _ (naming_at t.lines r k h ∙ ap (names r) c.there ∙ is_named c.line r (subst (Names c.line) (only c) c.names)))
          c;
    };
    here = at_r;
    other = at_other;
  }
    where
      named : (k : ℕ) → k < 64 → has (places_naming r t.lines) k ≡ true → NamesChanged t (table_with_range r new t) k
      named k h n = by (line_at t k) refl (sym (naming_at t.lines r k h) ∙ n)
        where
          by : (o : Option Line) → line_at t k ≡ o → names r (line_at t k) ≡ true → NamesChanged t (table_with_range r new t) k
          by None here i = absurd (both_ways (is_some (line_at t k)) (ap is_some here) (named_stands r (line_at t k) i))
          by (Some l) here i = record { line = l; register = r; there = here; names = named_is l r (sym (ap (names r) here) ∙ i); changed = λ s. smaller_differs old new e (sym at_r ∙ s) }

      only : {k : ℕ} (c : NamesChanged t (table_with_range r new t) k) → c.register ≡ r
      only c = ⊎_elim (λ i. i) (λ ne. absurd (c.changed (at_other c.register ne))) (cases_eq c.register r)

  kept_whole : smaller new old ≡ false → Cut r b t t
  kept_whole e = record { narrower = narrower_self t; here = sym (meet_whole old b e); other = λ q ne. refl }

  cut_made : Cut r b t (cut_table r b t)
  cut_made = cond_both (smaller new old) (table_with_range r new t) t (Cut r b t) made_smaller kept_whole

  -- what a cut leaves: nothing exactly where nothing is in common
  abbrev Leaves : Option Table → Type 0
  Leaves None = Proper new → ⊥
  Leaves (Some u) = Proper new × (Formed u × Cut r b t u)

  cut_leaves : Leaves (cut r b t)
  cut_leaves = cond_both (empty new) None (Some (cut_table r b t)) Leaves
      (λ e. empty_from new e)
      (λ e. (proper_from new e, (formed_cut t f r b, cut_made)))

-- ---- the three cuts of a line
-- what a register has after a cut, as `gets` says it
cut_gets : (r : ℕ) (b : Range) (t u : Table) → Cut r b t u → (q : ℕ) → range_at u q ≡ common_if (eqb r q) b (range_at t q)
cut_gets r b t u c q = ⊎_elim
    (λ (e : q ≡ r). subst (λ j. range_at u j ≡ common_if (eqb r j) b (range_at t j)) (sym e) (c.here ∙ meet_comm (range_at t r) b ∙ ap (λ x. common_if x b (range_at t r)) (sym (eq-eqb r r refl))))
    (λ (ne : q ≢ r). c.other q ne ∙ ap (λ x. common_if x b (range_at t q)) (sym (ne_eqb r q (λ e. ne (sym e)))))
    (cases_eq q r)

-- a register that has a reading keeps one through a cut that leaves something
still_proper : (r : ℕ) (b : Range) (t u : Table) → Cut r b t u → Proper (meet (range_at t r) b) → (q : ℕ) → Proper (range_at t q) → Proper (range_at u q)
still_proper r b t u c p q h = ⊎_elim
    (λ (e : q ≡ r). subst (λ j. Proper (range_at u j)) (sym e) (subst Proper (sym c.here) p))
    (λ (ne : q ≢ r). subst Proper (sym (c.other q ne)) h)
    (cases_eq q r)

-- nothing in common stays so
proper_outer : (a b : Range) → Within a b → Proper a → Proper b
proper_outer a b w p = omega (arith, ints)

less_proper : (x : Bool) (a b : Range) → (Proper b → ⊥) → Proper (common_if x a b) → ⊥
less_proper true a b h p = h (proper_outer (meet a b) b (meet_right a b) p)
less_proper false a b h p = h p

module _ (l : Line) (s : Triple) (t : Table) where
  abbrev got : ℕ → Range
  got q = gets l s q (range_at t q)

  -- nothing is left; or each register gets what its range and results have in common, which is something for those that the line names
  abbrev Outcome : Option Table → Type 0
  Outcome None = (r : ℕ) × (Names l r × (Proper (got r) → ⊥))
  Outcome (Some u) = ((q : ℕ) → range_at u q ≡ got q) × (((r : ℕ) → Names l r → Proper (got r)) × (Formed u × Narrower t u))

  -- what the first and the second cut leave of a register
  abbrev one : ℕ → Range
  one q = common_if (eqb l.x q) s.x (range_at t q)

  abbrev two : ℕ → Range
  two q = common_if (eqb l.y q) s.y (one q)

  -- a register that is cut by its own result
  own : (r : ℕ) (b a c : Range) → c ≡ a → common_if (eqb r r) b a ≡ meet c b
  own r b a c e = ap (λ x. common_if x b a) (eq-eqb r r refl) ∙ ap (meet b) (sym e) ∙ meet_comm b c

  module _ (lx : l.x < 32) (ly : l.y < 32) (lz : l.z < 32) (u v : Table) (c1 : Cut l.x s.x t u) (p1 : Proper (meet (range_at t l.x) s.x)) (c2 : Cut l.y s.y u v) (p2 : Proper (meet (range_at u l.y) s.y)) where
    at_two : (q : ℕ) → range_at v q ≡ two q
    at_two q = cut_gets l.y s.y u v c2 q ∙ ap (common_if (eqb l.y q) s.y) (cut_gets l.x s.x t u c1 q)

    third : (fv : Formed v) (o : Option Table) → Leaves l.z lz s.z v fv o → Outcome o
    third fv None h = (l.z, (inr (inr refl), λ p. h (subst Proper (own l.z s.z (two l.z) (range_at v l.z) (at_two l.z)) p)))
    third fv (Some w) h = (ranges, (λ r n. subst Proper (ranges r) (proper r n), (h.1.0, narrower_then t v w (narrower_then t u v c1.narrower c2.narrower) h.1.1.narrower)))
      where
        ranges : (q : ℕ) → range_at w q ≡ got q
        ranges q = cut_gets l.z s.z v w h.1.1 q ∙ ap (common_if (eqb l.z q) s.z) (at_two q)

        proper : (r : ℕ) → Names l r → Proper (range_at w r)
        proper r n = ⊎_elim
            (λ (e : l.x ≡ r). subst (λ q. Proper (range_at w q)) e (still_proper l.z s.z v w h.1.1 h.0 l.x (still_proper l.y s.y u v c2 p2 l.x (subst Proper (sym c1.here) p1))))
            (λ yz. ⊎_elim
            (λ (e : l.y ≡ r). subst (λ q. Proper (range_at w q)) e (still_proper l.z s.z v w h.1.1 h.0 l.y (subst Proper (sym c2.here) p2)))
            (λ (e : l.z ≡ r). subst (λ q. Proper (range_at w q)) e (subst Proper (sym h.1.1.here) h.0))
            yz)
            n

  module _ (f : Formed t) (lx : l.x < 32) (ly : l.y < 32) (lz : l.z < 32) where
    second : (u : Table) (fu : Formed u) → Cut l.x s.x t u → Proper (meet (range_at t l.x) s.x) → (o : Option Table) → Leaves l.y ly s.y u fu o → Outcome (then o (cut l.z s.z))
    second u fu c1 p1 None h = (l.y, (inr (inl refl), less_proper (eqb l.z l.y) s.z (two l.y) (λ p. h (subst Proper (own l.y s.y (one l.y) (range_at u l.y) (cut_gets l.x s.x t u c1 l.y)) p))))
    second u fu c1 p1 (Some v) h = third lx ly lz u v c1 p1 h.1.1 h.0 h.1.0 (cut l.z s.z v) (cut_leaves l.z lz s.z v h.1.0)

    first : (o : Option Table) → Leaves l.x lx s.x t f o → Outcome (then (then o (cut l.y s.y)) (cut l.z s.z))
    first None h = (l.x, (inl refl, less_proper (eqb l.z l.x) s.z (two l.x) (less_proper (eqb l.y l.x) s.y (one l.x) (λ p. h (subst Proper (own l.x s.x (range_at t l.x) (range_at t l.x) refl) p)))))
    first (Some u) h = second u h.1.0 h.1.1 h.0 (cut l.y s.y u) (cut_leaves l.y ly s.y u h.1.0)

    cuts_outcome : Outcome (cuts l (Some s) t)
    cuts_outcome = first (cut l.x s.x t) (cut_leaves l.x lx s.x t f)

-- ---- a step
-- a line that passes the check names registers that there are
pub record Registers (l : Line) : Type 0 where
  pub x : l.x < 32
  pub y : l.y < 32
  pub z : l.z < 32

pub registers : (l : Line) → passes_check l ≡ true → Registers l
registers l p =
    let r = (and_parts _ (ltb l.x 32 && (ltb l.y 32 && ltb l.z 32)) p).1 in
    let x = and_parts (ltb l.x 32) (ltb l.y 32 && ltb l.z 32) r in
    let yz = and_parts (ltb l.y 32) (ltb l.z 32) x.1 in
    record { x = ltb-true l.x 32 x.0; y = ltb-true l.y 32 yz.0; z = ltb-true l.z 32 yz.1 }

module _ (m : Meaning) (t : Table) (kept : Kept t) (is_open : t.state ≡ Open) where
  abbrev f : Formed t
  f = kept.formed

  abbrev found : (n : ℕ) × (lowest t.due ≡ Some n)
  found = lowest_some t.due (kept.busy is_open)

  abbrev n : ℕ
  n = found.0

  was_due : has t.due n ≡ true
  was_due = (lowest_in t.due n found.1).0

  lt : n < 64
  lt = standing_place t f n (f.due n was_due)

  abbrev taken : Table
  taken = record t { due = without n t.due }

  -- the table without the mark, and the one before it
  due_taken : (k : ℕ) → k < 64 → has taken.due k ≡ true → (has t.due k ≡ true) × (k ≢ n)
  due_taken k h d = let e = and_parts (has t.due k) (not (eqb k n)) (sym (without_has n t.due k h) ∙ d) in (e.0, λ i. both_ways (not (eqb k n)) (ap not (eq-eqb k n i)) e.1)

  taken_due : (k : ℕ) → k < 64 → (has t.due k ≡ true) × (k ≢ n) → has taken.due k ≡ true
  taken_due k h d = without_has n t.due k h ∙ both (has t.due k) (not (eqb k n)) d.0 (ap not (ne_eqb k n d.1))
    where
      both : (a b : Bool) → a ≡ true → b ≡ true → (a && b) ≡ true
      both a b e i = rw (e, i) refl

  module _ (l : Line) (here : line_at t n ≡ Some l) where
    regs : Registers l
    regs = registers l (f.passes n l here)

    taken_formed : Formed taken
    taken_formed = record { limits = f.limits; ranges = f.ranges; places = f.places; passes = f.passes; due = λ k d. f.due k (without_due k d) }
      where
        without_due : (k : ℕ) → has taken.due k ≡ true → has t.due k ≡ true
        without_due k d = (without_from n t.due k d).1

    narrows : (s : Triple) (u : Table) → Outcome l s taken (Some u) → Narrows l s n t (rest_or_open u)
    narrows s u h = record {
      ranges = λ r _. h.0 r;
      due = λ k lt. (
        (λ d. ⊎_elim
            (λ (e : has taken.due k ≡ true). inl (due_taken k lt e))
            (λ (c : NamesChanged taken u k). inr (record { line = c.line; register = c.register; there = c.there; names = c.names; changed = c.changed }))
            (h.1.1.1.from k lt d)),
        (λ d. ⊎_elim
            (λ (e : (has t.due k ≡ true) × (k ≢ n)). h.1.1.1.to k lt (inl (taken_due k lt e)))
            (λ (c : NamesChanged t (rest_or_open u) k). h.1.1.1.to k lt (inr (record { line = c.line; register = c.register; there = c.there; names = c.names; changed = c.changed })))
            d),
      );
      state = refl;
    }

    void_is : (v : Table) → IsVoid (void_table v)
    void_is v = record { state = refl; due = none_has }

    -- what the results of narrowing leave of the table
    abbrev Good : Option Triple → Table → Type 0
    Good o u = (u.limits ≡ t.limits) × ((u.lines ≡ t.lines) × Takes l o n t u)

    left : (s : Triple) (o : Option Table) → Outcome l s taken o → Good (Some s) (table_or_void taken o)
    left s None h = (refl, (refl, inl (h, void_is taken)))
    left s (Some u) h = (h.1.1.1.limits, (h.1.1.1.lines, inr (s, (refl, ((λ e. e.1.1 (h.1.0 e.0 e.1.0)), narrows s u h)))))

    by_results : (o : Option Triple) → Good o (table_or_void taken (cuts l o taken))
    by_results None = (refl, (refl, inl (tt, void_is taken)))
    by_results (Some s) = left s (cuts l (Some s) taken) (cuts_outcome l s taken taken_formed regs.x regs.y regs.z)

    step_here : IsStep m t (step_of_line m (Some l) taken)
    step_here = let g = by_results (results_of m l taken) in record {
      open_before = is_open;
      place = n;
      line = l;
      lowest = (lt, was_due, (lowest_in t.due n found.1).1);
      there = here;
      limits = g.0;
      lines = g.1.0;
      takes = g.1.1;
    }

  pub step_words : IsStep m t (step m t)
  step_words = subst (IsStep m t) (sym (ap (λ o. step_at m o t) found.1)) (by (line_at t n) refl)
    where
      by : (o : Option Line) → line_at t n ≡ o → IsStep m t (step_of_line m o taken)
      by None e = absurd (both_ways (stands t n) (ap is_some e) (f.due n was_due))
      by (Some l) e = step_here l e

-- ---- a settle
module _ (m : Meaning) where
  open_from : (s : State) → at_rest s ≡ false → s ≡ Open
  open_from Settled e = absurd cc
  open_from Open e = refl
  open_from Void e = absurd cc

  pub reaction_words : (t : Table) → Kept t → at_rest t.state ≡ false → IsStep m t (reaction m t.state Step t)
  reaction_words t kept e = let o = open_from t.state e in subst (λ s. IsStep m t (reaction m s Step t)) (sym o) (step_words m t kept o)

  pub settle_words : (b : ℕ) (t : Table) → Kept t → IsSettle m b (settling m b t).steps t (settling m b t).table
  settle_words zero t kept = record { within = omega arith; made = refl; spent = λ _. refl }
  settle_words (suc b) t kept = cond_both (at_rest t.state) record { table = t; steps = 0 } (after_steps 1 (settling m b (reaction m t.state Step t))) (λ a. IsSettle m (suc b) a.steps t a.table)
      (λ e. record { within = omega arith; made = refl; spent = λ o. absurd (both_ways (at_rest t.state) (ap at_rest o) e) })
      (λ e.
      let v = reaction m t.state Step t in
      let h = settle_words b v (kept_step m t.state t kept) in
      let one : suc (settling m b v).steps ≡ 1 + (settling m b v).steps = omega arith in
      record {
        within = omega (arith, h.within);
        made = subst (λ k. AreSteps m k t (settling m b v).table) one (v, (reaction_words t kept e, h.made));
        spent = λ o. omega (arith, h.spent o);
      })

  -- ---- a return to the limits
  at_limits : (t : Table) → AtLimits (table_at_limits t)
  at_limits t = record { ranges = refl; due = λ k lt. ((λ d. sym (standing_at t.lines k lt) ∙ d), (λ d. standing_at t.lines k lt ∙ d)); state = refl }

  -- ---- a limit
  module _ (r : ℕ) (b : Range) (t : Table) (lr : r < 32) (kept : Kept t) where
    abbrev limited : Table
    limited = record t { limits = set t.limits r b }

    limited_formed : Formed limited
    limited_formed = let f = kept.formed in record { limits = length-set t.limits r b ∙ f.limits; ranges = f.ranges; places = f.places; passes = f.passes; due = f.due }

    -- what a cut to the limits leaves, if the table was not void
    abbrev Live : Table → Type 0
    Live u = (u.limits ≡ limited.limits) × ((u.lines ≡ t.lines) × ((t.state ≢ Void) → Tightens r b t u))

    cut_to : (o : Option Table) → Leaves r lr b limited limited_formed o → Live (table_or_void limited o)
    cut_to None h = (refl, (refl, λ ne. inr (inl (ne, h, record { state = refl; due = none_has }))))
    cut_to (Some u) h = (
      h.1.1.narrower.limits,
      (
        h.1.1.narrower.lines,
        λ ne. inr (inr (
          ne,
          h.0,
          record {
            ranges = λ q _. cut_gets r b limited u h.1.1 q;
            due = λ k lt. (
              (λ d. ⊎_elim (λ (e : has t.due k ≡ true). inl e) (λ (c : NamesChanged limited u k). inr (record { line = c.line; register = c.register; there = c.there; names = c.names; changed = c.changed })) (h.1.1.narrower.from k lt d)),
              (λ d. h.1.1.narrower.to k lt (⊎_elim (λ (e : has t.due k ≡ true). inl e) (λ (c : NamesChanged t (rest_or_open u) k). inr (record { line = c.line; register = c.register; there = c.there; names = c.names; changed = c.changed })) d)),
            );
            state = refl;
          },
        )),
      ),
    )

    in_limits : Live (table_in_limits r limited)
    in_limits =
        let same : limits_at limited r ≡ b = get_or-set_same t.limits r b no_range (omega (arith, kept.formed.limits)) in
        subst (λ a. Live (table_or_void limited (cut r a limited))) (sym same) (cut_to (cut r b limited) (cut_leaves r lr b limited limited_formed))

    tightened : holds_all (limits_at t r) b ≡ true → (s : State) → t.state ≡ s → IsLimit r b t (reaction m s (Tightened r) limited)
    tightened e Void i = record { limits = refl; lines = refl; inside = λ _. inl (i, i, refl, refl); outside = λ d. absurd (both_ways (holds_all (limits_at t r) b) d e) }
    tightened e Settled i = record { limits = in_limits.0; lines = in_limits.1.0; inside = λ _. in_limits.1.1 (λ v. let h = sym i ∙ v in absurd cc); outside = λ d. absurd (both_ways (holds_all (limits_at t r) b) d e) }
    tightened e Open i = record { limits = in_limits.0; lines = in_limits.1.0; inside = λ _. in_limits.1.1 (λ v. let h = sym i ∙ v in absurd cc); outside = λ d. absurd (both_ways (holds_all (limits_at t r) b) d e) }

    loosened : holds_all (limits_at t r) b ≡ false → (s : State) → IsLimit r b t (reaction m s Loosened limited)
    loosened e = by
      where
        whole : IsLimit r b t (table_at_limits limited)
        whole = record { limits = refl; lines = refl; inside = λ d. absurd (both_ways (holds_all (limits_at t r) b) e d); outside = λ _. at_limits limited }

        by : (s : State) → IsLimit r b t (reaction m s Loosened limited)
        by Void = whole
        by Settled = whole
        by Open = whole

    pub limit_words : IsLimit r b t (table_after_limit m r b t)
    limit_words = cond_both (holds_all (limits_at t r) b) (Tightened r) Loosened (λ e. IsLimit r b t (reaction m t.state e limited))
        (λ e. tightened e t.state refl)
        (λ e. loosened e t.state)

  -- ---- an enter
  pub enter_words : (n : ℕ) (l : Line) (t : Table) → n < 64 → stands t n ≡ false → IsEnter n l t (table_after_enter m n l t)
  enter_words n l t lt off = by t.state refl
    where
      due : (s : State) → t.state ≡ s → s ≢ Void → IsEnter n l t (table_with_due n (table_with_line n l t))
      due s e ne = record {
        place = lt;
        free = none_from (line_at t n) off;
        limits = refl;
        ranges = refl;
        lines = refl;
        void = λ v. absurd (ne (sym e ∙ v));
        live = λ _. (
          refl,
          λ k h. (
            (λ d. ⊎_elim (λ a. inl a) (λ b. inr (eqb-true k n b)) (or_cases (has t.due k) (eqb k n) (sym (with_has n t.due k h) ∙ d))),
            (λ d. with_has n t.due k h ∙ ⊎_elim (λ a. or_left (has t.due k) (eqb k n) a) (λ b. or_right (has t.due k) (eqb k n) (eq-eqb k n b)) d),
          ),
        );
      }

      by : (s : State) → t.state ≡ s → IsEnter n l t (reaction m s (Entered n) (table_with_line n l t))
      by Settled e = due Settled e (λ v. absurd cc)
      by Open e = due Open e (λ v. absurd cc)
      by Void e = record { place = lt; free = none_from (line_at t n) off; limits = refl; ranges = refl; lines = refl; void = λ v. (v, refl); live = λ ne. absurd (ne e) }

  -- ---- a strike
  pub strike_words : (n : ℕ) (t : Table) → stands t n ≡ true → IsStrike n t (table_after_strike m n t)
  strike_words n t on = by t.state
    where
      by : (s : State) → IsStrike n t (reaction m s Struck (table_without_line n t))
      by Settled = record { there = on; limits = refl; lines = refl; returns = at_limits (table_without_line n t) }
      by Open = record { there = on; limits = refl; lines = refl; returns = at_limits (table_without_line n t) }
      by Void = record { there = on; limits = refl; lines = refl; returns = at_limits (table_without_line n t) }
