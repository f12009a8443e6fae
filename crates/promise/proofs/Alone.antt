-- A line leaves ranges unchanged, in the promise's sense, exactly if its step by the rules of a table changes none of them.
use Rattle.std.proofs.Common.{◌≡◌, ℕ, ◌<◌, false, length, Some, None, Option, sym, refl, ap, ◌∙◌, subst, ⊎_elim, arith}
use lib.Signed.{lt_z}
use Rattle.std.specs.Int.{int_max, int_min}
use Rattle.std.proofs.lemmas.List.{length-set}
use Rattle.std.proofs.lemmas.Int.{ints}
use Rattle.std.proofs.lemmas.Bool.{cases_Bool, cond-true, cond-false, cond_both, or_from}
use Rattle.catalogue.specs.declared.types.Range.{Range}
use Rattle.catalogue.specs.declared.types.Triple.{Triple}
use Rattle.catalogue.specs.Meanings.{Meaning, Laws}
use Rattle.catalogue.specs.Ranges.{Proper, Within, WithinO, empty, meet, smaller}
use Rattle.sheet.specs.declared.lines.Line.{Line}
use Rattle.sheet.specs.declared.table.Table.{Table}
use Rattle.promise.specs.Promise.{Unchanged}
use Rattle.sheet.specs.Rules.{no_range, range_at, table_with_range, cut_table, cut, then, ranges_of, cuts, narrowed_table}
use Rattle.sheet.proofs.Meets.{covers, meet_left, meet_right, some_left, within_self, within_then}
use Rattle.sheet.proofs.Wordings.{Registers}
use Rattle.promise.proofs.Setting.{at_each}
use Rattle.promise.proofs.Unmoving.{unchanged, unmoved}

changed_at : (r : ℕ) (new : Range) (t : Table) → r < length t.ranges → (P : ℕ → Range → Type 0) → P r new → ((q : ℕ) → (q ≡ r → ⊥) → P q (range_at t q)) → (q : ℕ) → P q (range_at (table_with_range r new t) q)
changed_at r new t lt P here off = at_each t.ranges r new no_range lt P here off

-- ---- a range within the cut stays as it is
no_smaller : (a b : Range) → Within a b → smaller (meet a b) a ≡ false
no_smaller a b h = or_from (lt_z a.low (int_max a.low b.low)) (lt_z (int_min a.high b.high) a.high) (grind (arith, ints)) (grind (arith, ints))

cut_alone : (r : ℕ) (b : Range) (t : Table) → Proper (range_at t r) → Within (range_at t r) b → cut r b t ≡ Some t
cut_alone r b t p h =
    let a = range_at t r in
    cond-false (empty (meet a b)) None (Some (cut_table r b t)) (some_left a a b p (within_self a) h)
    ∙ ap Some (cond-false (smaller (meet a b) a) (table_with_range r (meet a b) t) t (no_smaller a b h))

absorbed_alone : (l : Line) (o : Option Triple) (t : Table) → Registers l → ((r : ℕ) → r < 32 → Proper (range_at t r)) → WithinO (Some (ranges_of l t)) o → cuts l o t ≡ Some t
absorbed_alone l None t p proper h = absurd h
absorbed_alone l (Some s) t p proper h =
    ap (λ o. then (then o (cut l.y s.y)) (cut l.z s.z)) (cut_alone l.x s.x t (proper l.x p.x) h.0)
    ∙ ap (λ o. then o (cut l.z s.z)) (cut_alone l.y s.y t (proper l.y p.y) h.1)
    ∙ cut_alone l.z s.z t (proper l.z p.z) h.2

-- ---- what a cut leaves
record Left (r : ℕ) (b : Range) (t u : Table) : Type 0 where
  wide : length u.ranges ≡ 32
  inside : (q : ℕ) → Within (range_at u q) (range_at t q)
  here : Within (range_at u r) b

cut_table_left : (r : ℕ) (b : Range) (t : Table) → r < 32 → length t.ranges ≡ 32 → Left r b t (cut_table r b t)
cut_table_left r b t lt wide =
    let a = range_at t r in
    let new = meet a b in
    let in_table : r < length t.ranges = omega arith in
    cond_both (smaller new a) (table_with_range r new t) t (Left r b t)
    (λ _. record {
      wide = length-set t.ranges r new ∙ wide;
      inside = changed_at r new t in_table (λ q v. Within v (range_at t q)) (meet_left a b) (λ q _. within_self (range_at t q));
      here = changed_at r new t in_table (λ q v. q ≡ r → Within v b) (λ _. meet_right a b) (λ q ne e. absurd (ne e)) r refl;
    })
    (λ d. record { wide = wide; inside = λ q. within_self (range_at t q); here = covers a b d })

cut_left : (r : ℕ) (b : Range) (t u : Table) → r < 32 → length t.ranges ≡ 32 → cut r b t ≡ Some u → Left r b t u
cut_left r b t u lt wide e = ⊎_elim
    (λ d. let h = sym (cond-true (empty (meet (range_at t r) b)) None (Some (cut_table r b t)) d) ∙ e in absurd cc)
    (λ d. let h = sym (cond-false (empty (meet (range_at t r) b)) None (Some (cut_table r b t)) d) ∙ e in
    let same : cut_table r b t ≡ u = cc in
    subst (Left r b t) same (cut_table_left r b t lt wide))
    (cases_Bool (empty (meet (range_at t r) b)))

then_some : (o : Option Table) (f : Table → Option Table) (u : Table) → then o f ≡ Some u → (v : Table) × (o ≡ Some v) × (f v ≡ Some u)
then_some None f u e = absurd cc
then_some (Some v) f u e = (v, refl, e)

-- what the three cuts of a line leave: every range within what it was, and the line's own within its results
record Absorbed (l : Line) (s : Triple) (t u : Table) : Type 0 where
  inside : (q : ℕ) → Within (range_at u q) (range_at t q)
  at_x : Within (range_at u l.x) s.x
  at_y : Within (range_at u l.y) s.y
  at_z : Within (range_at u l.z) s.z

absorbed_all : (l : Line) (s : Triple) (t u : Table) → Registers l → length t.ranges ≡ 32 → cuts l (Some s) t ≡ Some u → Absorbed l s t u
absorbed_all l s t u p wide e =
    let c = then_some (then (cut l.x s.x t) (cut l.y s.y)) (cut l.z s.z) u e in
    let b = then_some (cut l.x s.x t) (cut l.y s.y) c.0 c.1 in
    let x = cut_left l.x s.x t b.0 p.x wide b.1 in
    let y = cut_left l.y s.y b.0 c.0 p.y x.wide b.2 in
    let z = cut_left l.z s.z c.0 u p.z y.wide c.2 in
    record {
      inside = λ q. within_then (range_at u q) (range_at c.0 q) (range_at t q) (z.inside q) (within_then (range_at c.0 q) (range_at b.0 q) (range_at t q) (y.inside q) (x.inside q));
      at_x = within_then (range_at u l.x) (range_at c.0 l.x) s.x (z.inside l.x) (within_then (range_at c.0 l.x) (range_at b.0 l.x) s.x (y.inside l.x) x.here);
      at_y = within_then (range_at u l.y) (range_at c.0 l.y) s.y (z.inside l.y) y.here;
      at_z = z.here;
    }

absorbed_left : (l : Line) (o : Option Triple) (t u : Table) → Registers l → length t.ranges ≡ 32 → cuts l o t ≡ Some u → ((r : ℕ) → r < 32 → range_at u r ≡ range_at t r) → WithinO (Some (ranges_of l t)) o
absorbed_left l None t u p wide e same = absurd cc
absorbed_left l (Some s) t u p wide e same =
    let a = absorbed_all l s t u p wide e in
    (subst (λ v. Within v s.x) (same l.x p.x) a.at_x, subst (λ v. Within v s.y) (same l.y p.y) a.at_y, subst (λ v. Within v s.z) (same l.z p.z) a.at_z)

-- ---- both ways, for a line that passes the check
module _ (m : Meaning) (laws : Laws m) (l : Line) (p : Registers l) (t : Table) where
  pub unchanged_alone : ((r : ℕ) → r < 32 → Proper (range_at t r)) → Unchanged m l (range_at t) → narrowed_table m l t ≡ Some t
  unchanged_alone proper u = absorbed_alone l (m.narrowed l.operation.kind l.operation.modes (ranges_of l t)) t p proper (unmoved m laws (range_at t) l p u)

  pub alone_unchanged : length t.ranges ≡ 32 → (u : Table) → narrowed_table m l t ≡ Some u → ((r : ℕ) → r < 32 → range_at u r ≡ range_at t r) → Unchanged m l (range_at t)
  alone_unchanged wide u e same = unchanged m laws (range_at t) l (absorbed_left l (m.narrowed l.operation.kind l.operation.modes (ranges_of l t)) t u p wide e same)
