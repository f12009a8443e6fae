-- A board's lines, and the index beside them, after a line is put at a free place or taken away; and the sets that a board answers.
use Rattle.std.proofs.Common.{◌≡◌, ◌≢◌, ℕ, zero, suc, ◌+◌, ◌<◌, Bool, true, false, cond, not, ◌&&◌, ◌||◌, eqb, ltb, List, [], ◌∷◌, length, get_or, set, replicate, is_some, Some, None, Ok, Err, Option, Result, sym, refl, ap, ◌∙◌, subst, ⊎_elim, add-zero, arith}
use Rattle.std.proofs.lemmas.Grind.{common_steps}
use Rattle.std.proofs.lemmas.List.{ext_get_or, get_or-set_same, get_or-set_other, get_or-replicate, get_or_past, length-set}
use Rattle.std.proofs.lemmas.Bool.{cases_eq, cases_Bool, eq-eqb, ne_eqb, ltb-true, ltb-false}
use Rattle.catalogue.specs.declared.types.Refusal.{Refusal}
use Rattle.sheet.specs.declared.lines.CheckedLine.{CheckedLine}
use Rattle.sheet.specs.declared.lines.Line.{Line}
use Rattle.sheet.specs.declared.places.Places.{Places}
use Rattle.sheet.specs.declared.table.Row.{Row}
use Rattle.sheet.specs.Boards.{Agrees, line_answer, line_if, line_in, line_or_none, lines_from, lines_of, index_with, index_without, names, places_naming, places_with_line}
use Rattle.sheet.specs.Lines.{check_answer, row_of}
use Rattle.sheet.specs.Places.{has, none, places_where, with_place, without}
use Rattle.sheet.proofs.Checking.{checked_again, checked_passes}
use Rattle.sheet.proofs.PlaceSets.{same_sets, where_at, where_past, where_is, none_has, none_is, with_here, with_other, with_has, with_is, without_here, without_other, without_has, without_is}

-- ---- the line at each place
pub lines_length : (s : Places) (k : ℕ) (ws : List Row) → length (lines_from s k ws) ≡ length ws
lines_length s k [] = refl
lines_length s k (w ∷ ws) = ap suc (lines_length s (suc k) ws)

lines_at : (s : Places) (k : ℕ) (ws : List Row) (i : ℕ) (d : Row) → i < length ws → line_in (lines_from s k ws) i ≡ line_if (has s (k + i)) (get_or ws i d)
lines_at s k [] i d lt = absurd (omega arith)
lines_at s k (w ∷ ws) zero d lt = ap (λ j. line_if (has s j) w) (sym (add-zero k))
lines_at s k (w ∷ ws) (suc i) d lt = lines_at s (suc k) ws i d (omega arith) ∙ ap (λ j. line_if (has s j) (get_or ws i d)) (omega arith)

pub line_there : (s : Places) (ws : List Row) (ls : List (Option Line)) (i : ℕ) (d : Row) → lines_of s ws ≡ ls → i < length ws → line_in ls i ≡ line_if (has s i) (get_or ws i d)
line_there s ws ls i d e lt = ap (λ l. line_in l i) (sym e) ∙ lines_at s 0 ws i d lt ∙ ap (λ j. line_if (has s j) (get_or ws i d)) (omega arith)

module _ (s : Places) (ws : List Row) (places : length ws ≡ 64) (n : ℕ) (lt : n < 64) where
  abbrev ls : List (Option Line)
  ls = lines_of s ws

  below : (vs : List Row) (u : Places) (i : ℕ) → length vs ≡ 64 → i < length (lines_of u vs) → i < 64
  below vs u i e h = omega (arith, lines_length u 0 vs)

  pub lines_put : (w : Row) (l : Line) → line_if true w ≡ Some l → lines_of (with_place n s) (set ws n w) ≡ set ls n (Some l)
  lines_put w l e = ext_get_or None (lines_of (with_place n s) (set ws n w)) (set ls n (Some l)) (grind (arith, lines_length, length-set))
      (λ i h.
      let a = line_there (with_place n s) (set ws n w) _ i w refl (omega (arith, lines_length (with_place n s) 0 (set ws n w))) in
      let b = line_there s ws ls i w refl (omega (arith, length-set ws n w, lines_length (with_place n s) 0 (set ws n w))) in
      a ∙ ⊎_elim
      (λ (f : i ≡ n). subst (λ j. line_if (has (with_place n s) j) (get_or (set ws n w) j w) ≡ get_or (set ls n (Some l)) j None) (sym f)
      (ap (λ b. line_if b (get_or (set ws n w) n w)) (with_here n s lt) ∙ ap (line_if true) (get_or-set_same ws n w w (omega arith)) ∙ e ∙ sym (get_or-set_same ls n (Some l) None (omega (arith, lines_length s 0 ws)))))
      (λ (ne : i ≢ n). ap (λ b. line_if b (get_or (set ws n w) i w)) (with_other n s i (below (set ws n w) (with_place n s) i (length-set ws n w ∙ places) h) ne) ∙ ap (line_if (has s i)) (get_or-set_other ws n i w w ne) ∙ sym b ∙ sym (get_or-set_other ls n i (Some l) None ne))
      (cases_eq i n))

  pub lines_take : (d : Row) → lines_of (without n s) ws ≡ set ls n None
  lines_take d = ext_get_or None (lines_of (without n s) ws) (set ls n None) (grind (arith, lines_length, length-set))
      (λ i h.
      let a = line_there (without n s) ws _ i d refl (omega (arith, lines_length (without n s) 0 ws)) in
      let b = line_there s ws ls i d refl (omega (arith, lines_length (without n s) 0 ws)) in
      a ∙ ⊎_elim
      (λ (f : i ≡ n). subst (λ j. line_if (has (without n s) j) (get_or ws j d) ≡ get_or (set ls n None) j None) (sym f)
      (ap (λ b. line_if b (get_or ws n d)) (without_here n s lt) ∙ sym (get_or-set_same ls n None None (omega (arith, lines_length s 0 ws)))))
      (λ (ne : i ≢ n). ap (λ b. line_if b (get_or ws i d)) (without_other n s i (below ws (without n s) i places h) ne) ∙ sym b ∙ sym (get_or-set_other ls n i None None ne))
      (cases_eq i n))

-- ---- the places where a line has a property
module _ (ls : List (Option Line)) where
  pub standing_at : (n : ℕ) → n < 64 → has (places_with_line ls) n ≡ is_some (line_in ls n)
  unfolding places_with_line
  standing_at n lt = where_at (λ k. is_some (line_in ls k)) n lt

  pub naming_at : (r n : ℕ) → n < 64 → has (places_naming r ls) n ≡ names r (line_in ls n)
  unfolding places_naming
  naming_at r n lt = where_at (λ k. names r (line_in ls k)) n lt

  -- at each number, since no line stands past the last place
  pub standing_all : length ls ≡ 64 → (n : ℕ) → has (places_with_line ls) n ≡ is_some (line_in ls n)
  unfolding places_with_line
  standing_all long n = ⊎_elim
      (λ t. standing_at n (ltb-true n 64 t))
      (λ f. let far = ltb-false n 64 f in where_past (λ k. is_some (line_in ls k)) n far ∙ sym (ap is_some (get_or_past ls n None (omega (arith, long)))))
      (cases_Bool (ltb n 64))

  pub naming_all : length ls ≡ 64 → (r n : ℕ) → has (places_naming r ls) n ≡ names r (line_in ls n)
  unfolding places_naming
  naming_all long r n = ⊎_elim
      (λ t. naming_at r n (ltb-true n 64 t))
      (λ f. let far = ltb-false n 64 f in where_past (λ k. names r (line_in ls k)) n far ∙ sym (ap (names r) (get_or_past ls n None (omega (arith, long)))))
      (cases_Bool (ltb n 64))

  standing_is : places_where (has (places_with_line ls)) ≡ places_with_line ls
  unfolding places_with_line
  standing_is = where_is (λ k. is_some (line_in ls k))

  naming_is : (r : ℕ) → places_where (has (places_naming r ls)) ≡ places_naming r ls
  unfolding places_naming
  naming_is r = where_is (λ k. names r (line_in ls k))

-- ---- the index
module _ (n x : ℕ) (s : List Places) (r : ℕ) (lt : x < length s) where
  with_at : get_or (index_with n x s) r none ≡ cond (eqb x r) (with_place n (get_or s r none)) (get_or s r none)
  with_at = grind (arith, common_steps)

  without_at : get_or (index_without n x s) r none ≡ cond (eqb x r) (without n (get_or s r none)) (get_or s r none)
  without_at = grind (arith, common_steps)

-- a set that is made by its own places
abbrev Made : Places → Type 0
Made s = places_where (has s) ≡ s

module _ (n k : ℕ) (lt : k < 64) (s : Places) where
  put_at : (b : Bool) → has (cond b (with_place n s) s) k ≡ (has s k || (b && eqb k n))
  put_at true = with_has n s k lt
  put_at false = or_none (has s k)
    where
      or_none : (a : Bool) → a ≡ (a || false)
      or_none true = refl
      or_none false = refl

  take_at : (b : Bool) → has (cond b (without n s) s) k ≡ (has s k && not (b && eqb k n))
  take_at true = without_has n s k lt
  take_at false = and_all (has s k)
    where
      and_all : (a : Bool) → a ≡ (a && true)
      and_all true = refl
      and_all false = refl

put_made : (n : ℕ) (s : Places) (b : Bool) → Made s → Made (cond b (with_place n s) s)
put_made n s true h = with_is n s
put_made n s false h = h

take_made : (n : ℕ) (s : Places) (b : Bool) → Made s → Made (cond b (without n s) s)
take_made n s true h = without_is n s
take_made n s false h = h

line_put : (ls : List (Option Line)) (n : ℕ) (o : Option Line) (k : ℕ) → n < length ls → line_in (set ls n o) k ≡ cond (eqb k n) o (line_in ls k)
line_put ls n o k lt = grind (arith, common_steps)

-- ---- a checked line is made again from its row
pub remade : (c : CheckedLine) → line_if true (row_of c.line) ≡ Some c.line
remade c = ap line_or_none (checked_again c.line (checked_passes c))

-- ---- the invariant
pub no_lines : (n : ℕ) → line_in (replicate 64 None) n ≡ None
no_lines n = ⊎_elim (λ e. get_or-replicate 64 n None None (ltb-true n 64 e)) (λ e. get_or_past (replicate 64 None) n None (ltb-false n 64 e)) (cases_Bool (ltb n 64))

-- a line stands at no place past the last
pub in_range : (ls : List (Option Line)) (n : ℕ) (l : Line) → line_in ls n ≡ Some l → n < length ls
in_range ls n l e = ⊎_elim (λ t. ltb-true n (length ls) t) (λ f. let h = get_or_past ls n None (ltb-false n (length ls) f) in absurd cc) (cases_Bool (ltb n (length ls)))

pub none_from : (o : Option Line) → is_some o ≡ false → o ≡ None
none_from None e = refl
none_from (Some l) e = absurd cc

-- what the check of a row answers, as a line or none
pub answered : (r : Result CheckedLine Refusal) → line_answer r ≡ line_or_none (check_answer r)
answered (Ok l) = refl
answered (Err e) = refl

module _ (ws : List Row) (s : Places) (ns : List Places) (a : Agrees ws s ns) (n : ℕ) (lt : n < 64) (c : CheckedLine) where
  abbrev l : Line
  l = c.line

  abbrev all : List (Option Line)
  all = lines_of s ws

  in_all : n < length all
  in_all = omega (arith, a.places, lines_length s 0 ws)

  has_standing : (k : ℕ) → k < 64 → has s k ≡ is_some (line_in all k)
  has_standing k h = ap (λ q. has q k) a.stands ∙ standing_at all k h

  has_naming : (r k : ℕ) → r < 32 → k < 64 → has (get_or ns r none) k ≡ names r (line_in all k)
  has_naming r k hr h = ap (λ q. has q k) (a.index r hr) ∙ naming_at all r k h

  naming_made : (r : ℕ) → r < 32 → Made (get_or ns r none)
  naming_made r hr = subst Made (sym (a.index r hr)) (naming_is all r)

  pub put_agrees : line_in all n ≡ None → Agrees (set ws n (row_of l)) (with_place n s) (index_with n l.z (index_with n l.y (index_with n l.x ns)))
  put_agrees free =
      let e : lines_of (with_place n s) (set ws n (row_of l)) ≡ set all n (Some l) = lines_put s ws a.places n lt (row_of l) l (remade c) in
      let s1 = index_with n l.x ns in
      let s2 = index_with n l.y s1 in
      let l1 : length s1 ≡ 32 = length-set ns l.x _ ∙ a.registers in
      let l2 : length s2 ≡ 32 = length-set s1 l.y _ ∙ l1 in
      record {
        places = length-set ws n (row_of l) ∙ a.places;
        registers = length-set s2 l.z _ ∙ l2;
        stands = same_sets (with_place n s) (places_with_line (lines_of (with_place n s) (set ws n (row_of l)))) (with_is n s) (standing_is _) (λ k h.
            let q = with_has n s k h in
            let t = has_standing k h in
            let p = line_put all n (Some l) k in_all in
            let w = standing_at (lines_of (with_place n s) (set ws n (row_of l))) k h in
            rw (q, t, w, e, p) (put_stands (eqb k n) (line_in all k)));
        index = λ r hr.
            let q = get_or ns r none in
            let hx = with_at n l.x ns r (omega (arith, c.x_exists, a.registers)) in
            let hy = with_at n l.y s1 r (omega (arith, c.y_exists)) in
            let hz = with_at n l.z s2 r (omega (arith, c.z_exists)) in
            let q1 = cond (eqb l.x r) (with_place n q) q in
            let q2 = cond (eqb l.y r) (with_place n q1) q1 in
            let q3 = cond (eqb l.z r) (with_place n q2) q2 in
            let is : get_or (index_with n l.z s2) r none ≡ q3 = rw (hz, hy, hx) refl in
            let made : Made q3 = put_made n q2 (eqb l.z r) (put_made n q1 (eqb l.y r) (put_made n q (eqb l.x r) (naming_made r hr))) in
            is ∙ same_sets q3 (places_naming r (lines_of (with_place n s) (set ws n (row_of l)))) made (naming_is _ r) (λ k h.
            let g1 = put_at n k h q (eqb l.x r) in
            let g2 = put_at n k h q1 (eqb l.y r) in
            let g3 = put_at n k h q2 (eqb l.z r) in
            let t = has_naming r k hr h in
            let p = line_put all n (Some l) k in_all in
            let w = naming_at (lines_of (with_place n s) (set ws n (row_of l))) r k h in
            rw (g3, g2, g1, t, w, e, p) (put_names r k));
      }
    where
      put_stands : (b : Bool) (o : Option Line) → (is_some o || b) ≡ is_some (cond b (Some l) o)
      put_stands true None = refl
      put_stands true (Some j) = refl
      put_stands false None = refl
      put_stands false (Some j) = refl

      put_names : (r k : ℕ) → (((names r (line_in all k) || (eqb l.x r && eqb k n)) || (eqb l.y r && eqb k n)) || (eqb l.z r && eqb k n)) ≡ names r (cond (eqb k n) (Some l) (line_in all k))
      put_names r k = ⊎_elim
          (λ (f : k ≡ n). let z : line_in all k ≡ None = subst (λ j. line_in all j ≡ None) (sym f) free in rw (z, eq-eqb k n f) (grind arith))
          (λ (ne : k ≢ n). rw (ne_eqb k n ne) (grind arith))
          (cases_eq k n)

  pub taken_agrees : line_in all n ≡ Some l → Agrees ws (without n s) (index_without n l.z (index_without n l.y (index_without n l.x ns)))
  taken_agrees there =
      let e : lines_of (without n s) ws ≡ set all n None = lines_take s ws a.places n lt (row_of l) in
      let s1 = index_without n l.x ns in
      let s2 = index_without n l.y s1 in
      let l1 : length s1 ≡ 32 = length-set ns l.x _ ∙ a.registers in
      let l2 : length s2 ≡ 32 = length-set s1 l.y _ ∙ l1 in
      record {
        places = a.places;
        registers = length-set s2 l.z _ ∙ l2;
        stands = same_sets (without n s) (places_with_line (lines_of (without n s) ws)) (without_is n s) (standing_is _) (λ k h.
            let q = without_has n s k h in
            let t = has_standing k h in
            let p = line_put all n None k in_all in
            let w = standing_at (lines_of (without n s) ws) k h in
            rw (q, t, w, e, p) (take_stands (eqb k n) (line_in all k)));
        index = λ r hr.
            let q = get_or ns r none in
            let hx = without_at n l.x ns r (omega (arith, c.x_exists, a.registers)) in
            let hy = without_at n l.y s1 r (omega (arith, c.y_exists)) in
            let hz = without_at n l.z s2 r (omega (arith, c.z_exists)) in
            let q1 = cond (eqb l.x r) (without n q) q in
            let q2 = cond (eqb l.y r) (without n q1) q1 in
            let q3 = cond (eqb l.z r) (without n q2) q2 in
            let is : get_or (index_without n l.z s2) r none ≡ q3 = rw (hz, hy, hx) refl in
            let made : Made q3 = take_made n q2 (eqb l.z r) (take_made n q1 (eqb l.y r) (take_made n q (eqb l.x r) (naming_made r hr))) in
            is ∙ same_sets q3 (places_naming r (lines_of (without n s) ws)) made (naming_is _ r) (λ k h.
            let g1 = take_at n k h q (eqb l.x r) in
            let g2 = take_at n k h q1 (eqb l.y r) in
            let g3 = take_at n k h q2 (eqb l.z r) in
            let t = has_naming r k hr h in
            let p = line_put all n None k in_all in
            let w = naming_at (lines_of (without n s) ws) r k h in
            rw (g3, g2, g1, t, w, e, p) (take_names r k));
      }
    where
      take_stands : (b : Bool) (o : Option Line) → (is_some o && not b) ≡ is_some (cond b None o)
      take_stands true None = refl
      take_stands true (Some j) = refl
      take_stands false None = refl
      take_stands false (Some j) = refl

      take_names : (r k : ℕ) → (((names r (line_in all k) && not (eqb l.x r && eqb k n)) && not (eqb l.y r && eqb k n)) && not (eqb l.z r && eqb k n)) ≡ names r (cond (eqb k n) None (line_in all k))
      take_names r k = ⊎_elim
          (λ (f : k ≡ n). let z : line_in all k ≡ Some l = subst (λ j. line_in all j ≡ Some l) (sym f) there in rw (z, eq-eqb k n f) (grind arith))
          (λ (ne : k ≢ n). rw (ne_eqb k n ne) (grind arith))
          (cases_eq k n)

-- ---- the sets that a board answers
module _ (ws : List Row) (s : Places) (ns : List Places) (a : Agrees ws s ns) (ls : List (Option Line)) (view : lines_of s ws ≡ ls) where
  pub standing_of_view : s ≡ places_with_line ls
  standing_of_view = a.stands ∙ ap places_with_line view

  pub naming_of_view : (r : ℕ) (d : Places) → r < 32 → get_or ns r d ≡ places_naming r ls
  naming_of_view r d hr = defaults ns r d none (omega (arith, a.registers)) ∙ a.index r hr ∙ ap (places_naming r) view
    where
      defaults : (xs : List Places) (i : ℕ) (x y : Places) → i < length xs → get_or xs i x ≡ get_or xs i y
      defaults xs i x y h = grind (arith, common_steps)

  pub has_of_view : (n : ℕ) → has s n ≡ is_some (line_in ls n)
  has_of_view n = ap (λ q. has q n) standing_of_view ∙ standing_all ls long n
    where
      long : length ls ≡ 64
      long = omega (arith, ap length view, lines_length s 0 ws, a.places)

-- ---- a new board
abbrev pub rows : List Row
rows = replicate 64 (record { kind = 0; modes = 0; x = 0; y = 0; z = 0 })

no_places : (f : Option Line → Bool) → f None ≡ false → places_where (λ n. f (line_in (replicate 64 None) n)) ≡ none
no_places f e = sym (same_sets none (places_where (λ n. f (line_in (replicate 64 None) n))) none_is (where_is _) (λ k h.
    none_has k ∙ sym (where_at (λ n. f (line_in (replicate 64 None) n)) k h ∙ ap f (no_lines k) ∙ e)))

-- no row of a new board is marked
pub new_lines : lines_of none rows ≡ replicate 64 None
new_lines = ext_get_or None (lines_of none rows) (replicate 64 None) refl (λ i h.
    line_there none rows (lines_of none rows) i (record { kind = 0; modes = 0; x = 0; y = 0; z = 0 }) refl h
    ∙ ap (λ b. line_if b (get_or rows i (record { kind = 0; modes = 0; x = 0; y = 0; z = 0 }))) (none_has i)
    ∙ sym (no_lines i))

pub new_agrees : (a b : Places) → a ≡ none → b ≡ none → Agrees rows a (replicate 32 b)
unfolding places_with_line places_naming
new_agrees a b e f = subst (λ q. Agrees rows q (replicate 32 b)) (sym e) (subst (λ q. Agrees rows none (replicate 32 q)) (sym f) (record {
  places = refl;
  registers = refl;
  stands = sym (subst (λ ls. places_with_line ls ≡ none) (sym new_lines) (no_places is_some refl));
  index = λ r hr. get_or-replicate 32 r none none hr ∙ sym (subst (λ ls. places_naming r ls ≡ none) (sym new_lines) (no_places (names r) refl));
}))
