-- The limits and the lines of the table that a history leads to are those of the history.
use Rattle.std.proofs.Common.{◌≡◌, ◌≢◌, ◌≤ℤ◌, ℕ, ℤ, zero, suc, ◌<◌, Bool, true, false, cond, not, ◌&&◌, ◌||◌, eqb, ltb, List, [], ◌∷◌, length, get_or, set, is_some, Some, None, Option, Ok, Err, Result, sym, refl, ap, ◌∙◌, subst, ⊎_elim, arith}
use lib.Signed.{lt_z}
use Rattle.std.proofs.lemmas.Int.{ints}
use Rattle.std.proofs.lemmas.List.{get_or-set_same, get_or-set_other, get_or-replicate, get_or_past}
use Rattle.std.proofs.lemmas.Bool.{cases_Bool, cases_eq, cond-true, cond-false, cond_both, eq-eqb, ne_eqb, lt-ltb, ltb-true, ltb-false, not-false, not-true, or_cases, or_parts, and_left, and_right}
use Rattle.catalogue.specs.declared.types.Range.{Range}
use Rattle.catalogue.specs.Meanings.{Meaning, all_readings}
use Rattle.catalogue.specs.Ranges.{Proper}
use Rattle.sheet.specs.declared.table.Table.{Table}
use Rattle.sheet.specs.Boards.{line_in}
use Rattle.sheet.specs.Calls.{bad_budget, limit_asked, limit_table, limits_read, line_table, no_line}
use Rattle.sheet.specs.Histories.{Call, limit, enter, strike, settle, look, partner, after, limits_got, limits_of, line_of, passes_check}
use Rattle.sheet.specs.Numbers.{no_place, no_register}
use Rattle.sheet.specs.Rules.{limits_at, line_at, no_range, settling, stands, table_after_enter, table_after_strike}
use Rattle.sheet.specs.Words.{AreSteps}
use Rattle.sheet.proofs.Boards.{no_lines, none_from}
use Rattle.sheet.proofs.Kept.{Kept, kept_after}
use Rattle.sheet.proofs.Wordings.{enter_words, limit_words, settle_words, strike_words}

-- a limit that is carried out is one of a register that there is, from one reading to another that is not below it
pub record Asked (m : Meaning) (r low high : ℕ) (b : Range) : Type 0 where
  pub register : r < 32
  pub reads_low : m.reads low ≡ Some b.low
  pub reads_high : m.reads high ≡ Some b.high
  pub proper : Proper b

read_asked : (m : Meaning) (r low high : ℕ) → r < 32 → (l h : Option ℤ) → m.reads low ≡ l → m.reads high ≡ h → (b : Range) → limits_read l h ≡ Ok b → Asked m r low high b
read_asked m r low high lt None h el eh b e = absurd cc
read_asked m r low high lt (Some l) None el eh b e = absurd cc
read_asked m r low high lt (Some l) (Some h) el eh b e =
    let made : Range = record { low = l; high = h } in
    ⊎_elim
    (λ d. let f = sym (cond-true (lt_z h l) (Err 3) (Ok made) d) ∙ e in absurd cc)
    (λ d. let f = sym (cond-false (lt_z h l) (Err 3) (Ok made) d) ∙ e in
    let same : made ≡ b = cc in
    let p : l ≤ℤ h = grind (arith, ints) in
    subst (Asked m r low high) same (record { register = lt; reads_low = el; reads_high = eh; proper = p }))
    (cases_Bool (lt_z h l))

pub asked_words : (m : Meaning) (r low high : ℕ) (b : Range) → limit_asked m r low high ≡ Ok b → Asked m r low high b
asked_words m r low high b e = ⊎_elim
    (λ d. let h = sym (cond-true (no_register r) (Err 1) (limits_read (m.reads low) (m.reads high)) d) ∙ e in absurd cc)
    (λ d. read_asked m r low high (ltb-true r 32 (not-false (ltb r 32) d)) (m.reads low) (m.reads high) refl refl b (sym (cond-false (no_register r) (Err 1) (limits_read (m.reads low) (m.reads high)) d) ∙ e))
    (cases_Bool (no_register r))

module _ (m : Meaning) where
  steps_stay : (k : ℕ) (t u : Table) → AreSteps m k t u → (u.limits ≡ t.limits) × (u.lines ≡ t.lines)
  steps_stay zero t u e = (ap (λ v. v.limits) e, ap (λ v. v.lines) e)
  steps_stay (suc k) t u s = let r = steps_stay k s.0 u s.1.1 in (r.0 ∙ s.1.0.limits, r.1 ∙ s.1.0.lines)

  pub settle_stays : (b : ℕ) (t : Table) → Kept t → ((settling m b t).table.limits ≡ t.limits) × ((settling m b t).table.lines ≡ t.lines)
  settle_stays b t kept = steps_stay (settling m b t).steps t (settling m b t).table (settle_words m b t kept).made

  -- ---- lines
  line_far : (t : Table) → Kept t → (n : ℕ) → no_place n ≡ true → line_at t n ≡ None
  line_far t kept n h = let far = ltb-false n 64 (not-true (ltb n 64) h) in get_or_past t.lines n None (omega (arith, kept.formed.places))

  limit_line : (r low high : ℕ) (t : Table) → Kept t → (n : ℕ) → (q : Result Range ℕ) → limit_asked m r low high ≡ q → line_at (limit_table m r q t) n ≡ line_at t n
  limit_line r low high t kept n (Ok b) e = ap (λ ls. line_in ls n) (limit_words m r b t ((asked_words m r low high b e).register) kept).lines
  limit_line r low high t kept n (Err e) i = refl

  pub line_after : (h : List Call) (n : ℕ) → line_at (after m h) n ≡ line_of h n
  line_after [] n = no_lines n
  line_after (limit r low high ∷ h) n = limit_line r low high (after m h) (kept_after m h) n (limit_asked m r low high) refl ∙ line_after h n
  line_after (enter k l ∷ h) n = cond_both (passes_check l) (line_table m k l (after m h)) (after m h) (λ u. line_at u n ≡ line_of (enter k l ∷ h) n)
      (λ p. cond_both (no_place k || stands (after m h) k) (after m h) (table_after_enter m k l (after m h)) (λ u. line_at u n ≡ line_of (enter k l ∷ h) n)
      (λ d. line_after h n ∙ sym (cond-false ((eqb k n && ltb n 64) && (passes_check l && not (is_some (line_of h n)))) (Some l) (line_of h n) (⊎_elim
      (λ (e : k ≡ n). ⊎_elim
      (λ (far : no_place k ≡ true). and_left (eqb k n && ltb n 64) (passes_check l && not (is_some (line_of h n))) (and_right (eqb k n) (ltb n 64) (subst (λ j. ltb j 64 ≡ false) e (not-true (ltb k 64) far))))
      (λ (taken : stands (after m h) k ≡ true). and_right (eqb k n && ltb n 64) (passes_check l && not (is_some (line_of h n))) (and_right (passes_check l) (not (is_some (line_of h n))) (ap not (sym (ap is_some (line_after h n)) ∙ subst (λ j. stands (after m h) j ≡ true) e taken))))
      (or_cases (no_place k) (stands (after m h) k) d))
      (λ (ne : k ≢ n). and_left (eqb k n && ltb n 64) (passes_check l && not (is_some (line_of h n))) (and_left (eqb k n) (ltb n 64) (ne_eqb k n ne)))
      (cases_eq k n))))
      (λ d.
      let parts = or_parts (no_place k) (stands (after m h) k) d in
      let lt : k < 64 = ltb-true k 64 (not-false (ltb k 64) parts.0) in
      let long : k < length (after m h).lines = omega (arith, (kept_after m h).formed.places) in
      ap (λ ls. line_in ls n) (enter_words m k l (after m h) lt parts.1).lines ∙ ⊎_elim
      (λ (e : n ≡ k). subst (λ j. line_in (set (after m h).lines k (Some l)) j ≡ cond ((eqb k j && ltb j 64) && (passes_check l && not (is_some (line_of h j)))) (Some l) (line_of h j)) (sym e)
      (get_or-set_same (after m h).lines k (Some l) None long ∙ sym (cond-true _ (Some l) (line_of h k)
      (all_four (eqb k k) (ltb k 64) (passes_check l) (is_some (line_of h k)) (eq-eqb k k refl) (lt-ltb k 64 lt) p (sym (ap is_some (line_after h k)) ∙ parts.1)))))
      (λ (ne : n ≢ k). get_or-set_other (after m h).lines k n (Some l) None ne ∙ line_after h n ∙ sym (cond-false ((eqb k n && ltb n 64) && (passes_check l && not (is_some (line_of h n)))) (Some l) (line_of h n) (and_left (eqb k n && ltb n 64) (passes_check l && not (is_some (line_of h n))) (and_left (eqb k n) (ltb n 64) (ne_eqb k n (λ e. ne (sym e)))))))
      (cases_eq n k)))
      (λ d. line_after h n ∙ sym (cond-false ((eqb k n && ltb n 64) && (passes_check l && not (is_some (line_of h n)))) (Some l) (line_of h n) (and_right (eqb k n && ltb n 64) (passes_check l && not (is_some (line_of h n))) (and_left (passes_check l) (not (is_some (line_of h n))) d))))
    where
      all_four : (a b c d : Bool) → a ≡ true → b ≡ true → c ≡ true → d ≡ false → ((a && b) && (c && not d)) ≡ true
      all_four a b c d e f g i = rw (e, f, g, i) refl
  line_after (strike k ∷ h) n = cond_both (no_line k (after m h)) (after m h) (table_after_strike m k (after m h)) (λ u. line_at u n ≡ cond (eqb k n) None (line_of h n))
      (λ d. ⊎_elim
      (λ (e : k ≡ n). subst (λ j. line_at (after m h) j ≡ cond (eqb k j) None (line_of h j)) e (nothing d ∙ sym (cond-true (eqb k k) None (line_of h k) (eq-eqb k k refl))))
      (λ (ne : k ≢ n). line_after h n ∙ sym (cond-false (eqb k n) None (line_of h n) (ne_eqb k n ne)))
      (cases_eq k n))
      (λ d.
      let lt : k < 64 = ltb-true k 64 (not-false (ltb k 64) (or_parts (no_place k) (not (stands (after m h) k)) d).0) in
      let long : k < length (after m h).lines = omega (arith, (kept_after m h).formed.places) in
      ap (λ ls. line_in ls n) (strike_words m k (after m h) (not-false (stands (after m h) k) (or_parts (no_place k) (not (stands (after m h) k)) d).1)).lines ∙ ⊎_elim
      (λ (e : k ≡ n). subst (λ j. line_in (set (after m h).lines k None) j ≡ cond (eqb k j) None (line_of h j)) e (get_or-set_same (after m h).lines k None None long ∙ sym (cond-true (eqb k k) None (line_of h k) (eq-eqb k k refl))))
      (λ (ne : k ≢ n). get_or-set_other (after m h).lines k n None None (λ e. ne (sym e)) ∙ line_after h n ∙ sym (cond-false (eqb k n) None (line_of h n) (ne_eqb k n ne)))
      (cases_eq k n))
    where
      nothing : no_line k (after m h) ≡ true → line_at (after m h) k ≡ None
      nothing d = ⊎_elim (line_far (after m h) (kept_after m h) k) (λ e. none_from (line_at (after m h) k) (not-true (stands (after m h) k) e)) (or_cases (no_place k) (not (stands (after m h) k)) d)
  line_after (settle b ∷ h) n = cond_both (bad_budget b) (after m h) (settling m b (after m h)).table (λ u. line_at u n ≡ line_of h n)
      (λ _. line_after h n)
      (λ _. ap (λ ls. line_in ls n) (settle_stays b (after m h) (kept_after m h)).1 ∙ line_after h n)
  line_after (look r ∷ h) n = line_after h n
  line_after (partner k x z ∷ h) n = line_after h n

  -- ---- limits
  limit_limits : (q low high : ℕ) (t : Table) → Kept t → (r : ℕ) (old : Range) → limits_at t r ≡ old → (a : Result Range ℕ) → limit_asked m q low high ≡ a → limits_at (limit_table m q a t) r ≡ limits_got (eqb q r) a old
  limit_limits q low high t kept r old same (Ok b) e =
      ap (λ ls. get_or ls r no_range) (limit_words m q b t ((asked_words m q low high b e).register) kept).limits ∙ ⊎_elim
      (λ (i : q ≡ r). subst (λ j. get_or (set t.limits q b) j no_range ≡ limits_got (eqb q j) (Ok b) old) i
      (get_or-set_same t.limits q b no_range (let lq = (asked_words m q low high b e).register in omega (arith, kept.formed.limits)) ∙ ap (λ c. limits_got c (Ok b) old) (sym (eq-eqb q q refl))))
      (λ (ne : q ≢ r). get_or-set_other t.limits q r b no_range (λ e. ne (sym e)) ∙ same ∙ ap (λ c. limits_got c (Ok b) old) (sym (ne_eqb q r ne)))
      (cases_eq q r)
  limit_limits q low high t kept r old same (Err e) i = same ∙ declined (eqb q r) old
    where
      declined : (c : Bool) (b : Range) → b ≡ limits_got c (Err e) b
      declined true b = refl
      declined false b = refl

  pub limits_after : (h : List Call) (r : ℕ) → r < 32 → limits_at (after m h) r ≡ limits_of m h r
  limits_after [] r lt = get_or-replicate 32 r (all_readings m) no_range lt
  limits_after (limit q low high ∷ h) r lt = limit_limits q low high (after m h) (kept_after m h) r (limits_of m h r) (limits_after h r lt) (limit_asked m q low high) refl
  limits_after (enter k l ∷ h) r lt = cond_both (passes_check l) (line_table m k l (after m h)) (after m h) (λ u. limits_at u r ≡ limits_of m h r)
      (λ p. cond_both (no_place k || stands (after m h) k) (after m h) (table_after_enter m k l (after m h)) (λ u. limits_at u r ≡ limits_of m h r)
      (λ _. limits_after h r lt)
      (λ d. ap (λ ls. get_or ls r no_range) (enter_words m k l (after m h) (ltb-true k 64 (not-false (ltb k 64) (or_parts (no_place k) (stands (after m h) k) d).0)) (or_parts (no_place k) (stands (after m h) k) d).1).limits ∙ limits_after h r lt))
      (λ _. limits_after h r lt)
  limits_after (strike k ∷ h) r lt = cond_both (no_line k (after m h)) (after m h) (table_after_strike m k (after m h)) (λ u. limits_at u r ≡ limits_of m h r)
      (λ _. limits_after h r lt)
      (λ d. ap (λ ls. get_or ls r no_range) (strike_words m k (after m h) (not-false (stands (after m h) k) (or_parts (no_place k) (not (stands (after m h) k)) d).1)).limits ∙ limits_after h r lt)
  limits_after (settle b ∷ h) r lt = cond_both (bad_budget b) (after m h) (settling m b (after m h)).table (λ u. limits_at u r ≡ limits_of m h r)
      (λ _. limits_after h r lt)
      (λ _. ap (λ ls. get_or ls r no_range) (settle_stays b (after m h) (kept_after m h)).0 ∙ limits_after h r lt)
  limits_after (look q ∷ h) r lt = limits_after h r lt
  limits_after (partner k x z ∷ h) r lt = limits_after h r lt
