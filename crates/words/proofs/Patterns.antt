-- A pattern is read from just the word of eight digits that is written of it.
use Rattle.std.proofs.Common.{◌≡◌, ℕ, ◌+◌, ◌*◌, ◌/◌, ◌%◌, ◌^◌, ◌<◌, false, eqb, ltb, List, [], ◌∷◌, map, length, Some, Option, sym, refl, ap, ◌∙◌, ⊎_elim, arith, rules}
use Rattle.std.proofs.lemmas.Bool.{cond-true, cond-false, lt-ltb, ltb-true, ne_eqb, cases_Bool}
use Rattle.std.proofs.lemmas.Bool.Decides.{nat_tests}
use Rattle.std.proofs.lemmas.Option.{none-some}
use Rattle.std.specs.Int.Digits.{AllBelowBase, number_from_digits_after}
use Rattle.words.proofs.Inverses.{inverts_from}
use Rattle.words.specs.Numbers.{worth, numeral, pattern_of, glyph_of, digits_of, written, Inverts}

worth_glyph : (d : ℕ) → d < 16 → worth (glyph_of d) ≡ d
worth_glyph d h = grind (arith, nat_tests)

glyph_worth : (b : ℕ) → worth b < 16 → glyph_of (worth b) ≡ b
glyph_worth b h = grind (arith, nat_tests)

-- glyphs are read as the digits that they stand for
glyphs_read : (n : ℕ) (ds : List ℕ) → AllBelowBase 16 ds → numeral 16 n (map glyph_of ds) ≡ Some (number_from_digits_after 16 n ds)
glyphs_read n [] u = refl
glyphs_read n (d ∷ ds) u =
    let w = worth_glyph d u.0 in
    let s : worth (glyph_of d) < 16 = omega (arith, u.0) in
    cond-true _ _ _ (lt-ltb _ _ s) ∙ ap (λ k. numeral 16 (n * 16 + k) (map glyph_of ds)) w ∙ glyphs_read (n * 16 + d) ds u.1

-- what is read consists of glyphs
record Read (n m : ℕ) (bs : List ℕ) : Type 0 where
  under : AllBelowBase 16 (map worth bs)
  glyphs : map glyph_of (map worth bs) ≡ bs
  number : number_from_digits_after 16 n (map worth bs) ≡ m

read_glyphs : (n m : ℕ) (bs : List ℕ) → numeral 16 n bs ≡ Some m → Read n m bs
read_glyphs n m [] e = record { under = tt; glyphs = refl; number = cc }
read_glyphs n m (b ∷ bs) e =
    ⊎_elim
    (λ t.
    let h = ltb-true (worth b) 16 t in
    let r = read_glyphs (n * 16 + worth b) m bs (sym (cond-true _ _ _ t) ∙ e) in
    let g = glyph_worth b h in
    let i = r.glyphs in
    record { under = (h, r.under); glyphs = cc; number = r.number })
    (λ f. absurd (none-some m (sym (cond-false _ _ _ f) ∙ e)))
    (cases_Bool (ltb (worth b) 16))

-- eight digits are those of the number that they write
record Eight (m : ℕ) (ds : List ℕ) : Type 0 where
  digits : digits_of m ≡ ds
  small : m < 2 ^ 32

eight : (p q r s t u v w m : ℕ) → AllBelowBase 16 (p ∷ q ∷ r ∷ s ∷ t ∷ u ∷ v ∷ w ∷ []) → number_from_digits_after 16 0 (p ∷ q ∷ r ∷ s ∷ t ∷ u ∷ v ∷ w ∷ []) ≡ m → Eight m (p ∷ q ∷ r ∷ s ∷ t ∷ u ∷ v ∷ w ∷ [])
eight p q r s t u v w m h e =
    let a : m / 0x1000_0000 % 16 ≡ p = omega arith in
    let b : m / 0x100_0000 % 16 ≡ q = omega arith in
    let c : m / 0x10_0000 % 16 ≡ r = omega arith in
    let d : m / 0x1_0000 % 16 ≡ s = omega arith in
    let f : m / 0x1000 % 16 ≡ t = omega arith in
    let g : m / 0x100 % 16 ≡ u = omega arith in
    let i : m / 0x10 % 16 ≡ v = omega arith in
    let j : m % 16 ≡ w = omega arith in
    record { digits = cc; small = omega arith }

join : (n : ℕ) → n < 2 ^ 32 → number_from_digits_after 16 0 (digits_of n) ≡ n
join n h = omega arith

under : (n : ℕ) → AllBelowBase 16 (digits_of n)
under n = search rules

eight_written : (p q r s t u v w m : ℕ) → numeral 16 0 (p ∷ q ∷ r ∷ s ∷ t ∷ u ∷ v ∷ w ∷ []) ≡ Some m → (m < 2 ^ 32) × (written m ≡ p ∷ q ∷ r ∷ s ∷ t ∷ u ∷ v ∷ w ∷ [])
eight_written p q r s t u v w m e =
    let g = read_glyphs 0 m (p ∷ q ∷ r ∷ s ∷ t ∷ u ∷ v ∷ w ∷ []) e in
    let d = eight (worth p) (worth q) (worth r) (worth s) (worth t) (worth u) (worth v) (worth w) m g.under g.number in
    (d.small, ap (map glyph_of) d.digits ∙ g.glyphs)

pub pattern_writes : (w : List ℕ) (n : ℕ) → pattern_of w ≡ Some n → (n < 2 ^ 32) × (written n ≡ w)
pattern_writes [] n e = absurd (none-some n e)
pattern_writes (a ∷ []) n e = absurd (none-some n e)
pattern_writes (a ∷ b ∷ []) n e = absurd (none-some n e)
pattern_writes (a ∷ b ∷ c ∷ []) n e = absurd (none-some n e)
pattern_writes (a ∷ b ∷ c ∷ d ∷ []) n e = absurd (none-some n e)
pattern_writes (a ∷ b ∷ c ∷ d ∷ f ∷ []) n e = absurd (none-some n e)
pattern_writes (a ∷ b ∷ c ∷ d ∷ f ∷ g ∷ []) n e = absurd (none-some n e)
pattern_writes (a ∷ b ∷ c ∷ d ∷ f ∷ g ∷ h ∷ []) n e = absurd (none-some n e)
pattern_writes (a ∷ b ∷ c ∷ d ∷ f ∷ g ∷ h ∷ i ∷ []) n e = eight_written a b c d f g h i n e
pattern_writes (a ∷ b ∷ c ∷ d ∷ f ∷ g ∷ h ∷ i ∷ j ∷ bs) n e =
    let long : eqb (length (a ∷ b ∷ c ∷ d ∷ f ∷ g ∷ h ∷ i ∷ j ∷ bs)) 8 ≡ false = ne_eqb _ 8 (λ z. omega arith) in
    absurd (none-some n (sym (cond-false _ _ _ long) ∙ e))

pub writes_pattern : (w : List ℕ) (n : ℕ) → n < 2 ^ 32 → written n ≡ w → pattern_of w ≡ Some n
writes_pattern w n h e = ap pattern_of (sym e) ∙ glyphs_read 0 (digits_of n) (under n) ∙ ap Some (join n h)

pub pattern_law : (w : List ℕ) (r : Option ℕ) → r ≡ pattern_of w → Inverts written (2 ^ 32) w r
pattern_law w r e = rw e (inverts_from written (2 ^ 32) w (pattern_of w) (pattern_writes w) (writes_pattern w))
