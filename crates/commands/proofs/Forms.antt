-- The forms of words: each has a reader and a writer, of which one undoes the other.
use Rattle.std.proofs.Common.{◌≡◌, ℕ, ◌<◌, List, [], ◌∷◌, Some, None, decimal, Option, refl, ap, arith}
use Rattle.std.proofs.lemmas.Fmt.{digits_decimal}
use Rattle.std.proofs.lemmas.Str.Parse.{numerals_by_value, tells_digits}
use Rattle.std.proofs.lemmas.Bool.Decides.{nat_tests}
use Rattle.std.proofs.lemmas.Option.{none-some}
use Rattle.std.specs.Str.Parse.{AllDigits}
use Rattle.std.specs.Char.{digit_value}
use Rattle.words.proofs.Decimals.{number_writes, writes_number}
use Rattle.words.proofs.Patterns.{pattern_writes, writes_pattern}
use Rattle.words.specs.Numbers.{number_of, pattern_of, written, glyph_of}
use Rattle.commands.specs.Commands.{then, word, kind_of, kind_by_letter}
use Rattle.commands.specs.Lines.{kind_letter, Number, Pattern, Kind}
use Rattle.commands.specs.declared.Command.{Command}
use Rattle.commands.proofs.Spaces.{Clear}

pub record Form (A : Type 0) (read : List ℕ → Option A) (write : A → List ℕ) (Fit : A → Type 0) : Type 0 where
  pub to : (w : List ℕ) (a : A) → read w ≡ Some a → Fit a × (write a ≡ w)
  pub from : (a : A) → Fit a → read (write a) ≡ Some a
  pub clear : (a : A) → Fit a → Clear (write a)

digits_clear : (ds : List ℕ) → AllDigits 10 ds → Clear ds
digits_clear [] d = tt
digits_clear (b ∷ ds) d =
    ((λ e. let h : digit_value 32 < 10 = rw e at d.0 in absurd (omega arith)), digits_clear ds d.1)

pub number_form : Form ℕ number_of decimal Number
number_form = record {
  to = number_writes;
  from = λ n h. writes_number (decimal n) n h refl;
  clear = λ n h. digits_clear (decimal n) (digits_decimal (numerals_by_value (AllDigits 10) tells_digits) n (omega arith));
}

glyph_clear : (d : ℕ) → glyph_of d ≡ 32 → ⊥
glyph_clear d e = grind (arith, nat_tests)

pub pattern_form : Form ℕ pattern_of written Pattern
pattern_form = record {
  to = pattern_writes;
  from = λ n h. writes_pattern (written n) n h refl;
  clear = λ n h. (glyph_clear _, (glyph_clear _, (glyph_clear _, (glyph_clear _, (glyph_clear _, (glyph_clear _, (glyph_clear _, (glyph_clear _, tt))))))));
}

kind_letters : (b k : ℕ) → kind_by_letter b ≡ Some k → Kind k × (kind_letter k ≡ b)
kind_letters b k e = (grind (arith, nat_tests), grind (arith, nat_tests))

kind_writes : (w : List ℕ) (k : ℕ) → kind_of w ≡ Some k → Kind k × (kind_letter k ∷ [] ≡ w)
kind_writes [] k e = absurd (none-some k e)
kind_writes (b ∷ []) k e = let l = kind_letters b k e in (l.0, ap (λ b. b ∷ []) l.1)
kind_writes (b ∷ c ∷ bs) k e = absurd (none-some k e)

kind_reads : (k : ℕ) → Kind k → kind_of (kind_letter k ∷ []) ≡ Some k
kind_reads k h = grind (arith, nat_tests)

kind_clear : (k : ℕ) → Clear (kind_letter k ∷ [])
kind_clear k = (λ e. grind (arith, nat_tests), tt)

pub kind_form : Form ℕ kind_of (λ k. kind_letter k ∷ []) Kind
kind_form = record { to = kind_writes; from = kind_reads; clear = λ k _. kind_clear k }

-- reading goes on from what a word was read as
abbrev going : {A : Type 0} → Option A → List (List ℕ) → (A → List (List ℕ) → Option Command) → Option Command
going {A} o ws go = then {A = A × List (List ℕ)} (then o (λ a. Some (a, ws))) (λ p. go p.0 p.1)

-- what follows from the word that was read, and from how reading went on to the command c
pub taking : {A P : Type 0} {read : List ℕ → Option A} {write : A → List ℕ} {Fit : A → Type 0} → Form A read write Fit → (ws : List (List ℕ)) (go : A → List (List ℕ) → Option Command) (c : Command) → word read ws go ≡ Some c → ((a : A) (rest : List (List ℕ)) → Fit a → write a ∷ rest ≡ ws → go a rest ≡ Some c → P) → P
taking form [] go c e next = absurd (none-some c e)
taking {A} {P} {read} {write} {Fit} form (w ∷ ws) go c e next = at (read w) refl e
  where
    at : (o : Option A) → read w ≡ o → going o ws go ≡ Some c → P
    at None q e = absurd (none-some c e)
    at (Some a) q e = let f = form.to w a q in next a ws f.0 (ap (λ v. v ∷ ws) f.1) e

-- a word that was written is read
pub step_back : {A : Type 0} {read : List ℕ → Option A} {write : A → List ℕ} {Fit : A → Type 0} → Form A read write Fit → (a : A) (ws : List (List ℕ)) (go : A → List (List ℕ) → Option Command) → Fit a → word read (write a ∷ ws) go ≡ go a ws
step_back form a ws go h = ap (λ o. going o ws go) (form.from a h)
