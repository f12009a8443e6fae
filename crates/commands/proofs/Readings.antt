-- A line is read as just the command that is written so.
use Rattle.std.proofs.Common.{◌≡◌, ℕ, eqb, cond, List, [], ◌∷◌, Some, None, Option, sym, refl, ap, ◌∙◌, subst, ⊎_elim}
use Rattle.std.proofs.lemmas.Bool.{cond-true, cond-false, eqb-true, cases_Bool}
use Rattle.std.proofs.lemmas.Option.{none-some}
use Rattle.words.specs.Words.{words}
use Rattle.commands.specs.Commands.{last, limit_of, enter_of, settle_of, look_of, strike_of, partner_of, by_letter, command_of}
use Rattle.commands.specs.Lines.{letter_of, words_of, spaced, line_of, Sized, Reads}
use Rattle.commands.specs.declared.Command.{Command}
use Rattle.commands.specs.declared.Command.TheVariants.{Limit, Enter, Settle, Look, Strike, Partner}
use Rattle.commands.proofs.Spaces.{words_back, spaced_words}
use Rattle.commands.proofs.Forms.{number_form, pattern_form, kind_form, taking, step_back}

-- the command has this letter and these words
pub record Written (b : ℕ) (ws : List (List ℕ)) (c : Command) : Type 0 where
  pub sized : Sized c
  pub letter : letter_of c ≡ b
  pub words : words_of c ≡ ws

join : {w : List ℕ} {vs us ws : List (List ℕ)} → w ∷ us ≡ ws → vs ≡ us → w ∷ vs ≡ ws
join {w} p q = ap (λ t. w ∷ t) q ∙ p

ended : (b : ℕ) (ws rest : List (List ℕ)) (d c : Command) → last rest d ≡ Some c → ([] ≡ rest → Written b ws d) → Written b ws c
ended b ws [] d c e written = let q : d ≡ c = cc in subst (Written b ws) q (written refl)
ended b ws (w ∷ rest) d c e written = absurd (none-some c e)

limit_written : (ws : List (List ℕ)) (c : Command) → limit_of ws ≡ Some c → Written 76 ws c
limit_written ws c e =
    taking number_form ws _ c e (λ r r-ws r-fits r-is r-more.
    taking pattern_form r-ws _ c r-more (λ l l-ws l-fits l-is l-more.
    taking pattern_form l-ws _ c l-more (λ h h-ws h_fits h-is h-more.
    ended 76 ws h-ws (Limit r l h) c h-more (λ q. record { sized = (r-fits, l-fits, h_fits); letter = refl; words = join r-is (join l-is (join h-is q)) }))))

enter_written : (ws : List (List ℕ)) (c : Command) → enter_of ws ≡ Some c → Written 69 ws c
enter_written ws c e =
    taking number_form ws _ c e (λ n n-ws n-fits n-is n-more.
    taking kind_form n-ws _ c n-more (λ k k-ws k-fits k-is k-more.
    taking number_form k-ws _ c k-more (λ m m-ws m-fits m-is m-more.
    taking number_form m-ws _ c m-more (λ x x-ws x_Fits x_is x-more.
    taking number_form x-ws _ c x-more (λ y y-ws y-fits y_is y-more.
    taking number_form y-ws _ c y-more (λ z z-ws z-fits z_is z-more.
    ended 69 ws z-ws (Enter n record { kind = k; modes = m; x = x; y = y; z = z }) c z-more (λ q. record { sized = (n-fits, k-fits, m-fits, x_Fits, y-fits, z-fits); letter = refl; words = join n-is (join k-is (join m-is (join x_is (join y_is (join z_is q))))) })))))))

settle_written : (ws : List (List ℕ)) (c : Command) → settle_of ws ≡ Some c → Written 83 ws c
settle_written ws c e =
    taking number_form ws _ c e (λ b b-ws b-fits b-is b-more.
    ended 83 ws b-ws (Settle b) c b-more (λ q. record { sized = b-fits; letter = refl; words = join b-is q }))

look_written : (ws : List (List ℕ)) (c : Command) → look_of ws ≡ Some c → Written 82 ws c
look_written ws c e =
    taking number_form ws _ c e (λ r r-ws r-fits r-is r-more.
    ended 82 ws r-ws (Look r) c r-more (λ q. record { sized = r-fits; letter = refl; words = join r-is q }))

strike_written : (ws : List (List ℕ)) (c : Command) → strike_of ws ≡ Some c → Written 75 ws c
strike_written ws c e =
    taking number_form ws _ c e (λ n n-ws n-fits n-is n-more.
    ended 75 ws n-ws (Strike n) c n-more (λ q. record { sized = n-fits; letter = refl; words = join n-is q }))

partner_written : (ws : List (List ℕ)) (c : Command) → partner_of ws ≡ Some c → Written 80 ws c
partner_written ws c e =
    taking number_form ws _ c e (λ n n-ws n-fits n-is n-more.
    taking pattern_form n-ws _ c n-more (λ x x-ws x_Fits x_is x-more.
    taking pattern_form x-ws _ c x-more (λ z z-ws z-fits z_is z-more.
    ended 80 ws z-ws (Partner n x z) c z-more (λ q. record { sized = (n-fits, x_Fits, z-fits); letter = refl; words = join n-is (join x_is (join z_is q)) }))))

-- what follows from the command that one letter stands for, and from that of the other letters
chosen : {P : Type 0} (b l : ℕ) (x y : Option Command) (c : Command) → (b ≡ l → x ≡ Some c → P) → (y ≡ Some c → P) → cond (eqb b l) x y ≡ Some c → P
chosen b l x y c here there e =
    ⊎_elim
    (λ t. here (eqb-true b l t) (sym (cond-true _ _ _ t) ∙ e))
    (λ f. there (sym (cond-false _ _ _ f) ∙ e))
    (cases_Bool (eqb b l))

letter_written : (b : ℕ) (ws : List (List ℕ)) (c : Command) → by_letter b ws ≡ Some c → Written b ws c
letter_written b ws c =
    chosen b 76 _ _ c (is 76 (limit_written ws c))
    (chosen b 69 _ _ c (is 69 (enter_written ws c))
    (chosen b 83 _ _ c (is 83 (settle_written ws c))
    (chosen b 82 _ _ c (is 82 (look_written ws c))
    (chosen b 75 _ _ c (is 75 (strike_written ws c))
    (chosen b 80 _ _ c (is 80 (partner_written ws c))
    (λ e. absurd (none-some c e)))))))
  where
    is : {o : Option Command} (l : ℕ) → (o ≡ Some c → Written l ws c) → b ≡ l → o ≡ Some c → Written b ws c
    is l written q e = subst (λ (x : ℕ). Written x ws c) (sym q) (written e)

-- the command that a line is read as is written so
command_writes : (xs : List ℕ) (c : Command) → command_of xs ≡ Some c → Sized c × (line_of c ≡ xs)
command_writes [] c e = absurd (none-some c e)
command_writes (b ∷ []) c e = absurd (none-some c e)
command_writes (b ∷ s ∷ bs) c e =
    ⊎_elim
    (λ t.
    let w = letter_written b (words bs) c (sym (cond-true _ _ _ t) ∙ e) in
    let p = ap spaced w.words ∙ spaced_words bs in
    let q = w.letter in
    let r = eqb-true s 32 t in
    (w.sized, cc))
    (λ f. absurd (none-some c (sym (cond-false _ _ _ f) ∙ e)))
    (cases_Bool (eqb s 32))

letter_reads : (c : Command) → Sized c → by_letter (letter_of c) (words_of c) ≡ Some c
letter_reads (Limit r l h) s =
    step_back number_form r _ _ s.0 ∙ step_back pattern_form l _ _ s.1 ∙ step_back pattern_form h _ _ s.2
letter_reads (Enter n l) s =
    step_back number_form n _ _ s.0
    ∙ step_back kind_form l.kind _ _ s.1
    ∙ step_back number_form l.modes _ _ s.2
    ∙ step_back number_form l.x _ _ s.3
    ∙ step_back number_form l.y _ _ s.4
    ∙ step_back number_form l.z _ _ s.5
letter_reads (Settle b) s = step_back number_form b _ _ s
letter_reads (Look r) s = step_back number_form r _ _ s
letter_reads (Strike n) s = step_back number_form n _ _ s
letter_reads (Partner n x z) s =
    step_back number_form n _ _ s.0 ∙ step_back pattern_form x _ _ s.1 ∙ step_back pattern_form z _ _ s.2

-- a command that is written is read
writes_command : (c : Command) → Sized c → command_of (line_of c) ≡ Some c
writes_command (Limit r l h) s =
    ap (by_letter 76) (words_back _ _ (number_form.clear r s.0) (pattern_form.clear l s.1, (pattern_form.clear h s.2, tt)))
    ∙ letter_reads (Limit r l h) s
writes_command (Enter n l) s =
    ap (by_letter 69)
    (words_back _ _ (number_form.clear n s.0)
    (kind_form.clear l.kind s.1, (number_form.clear l.modes s.2, (number_form.clear l.x s.3, (number_form.clear l.y s.4, (number_form.clear l.z s.5, tt))))))
    ∙ letter_reads (Enter n l) s
writes_command (Settle b) s = ap (by_letter 83) (words_back _ [] (number_form.clear b s) tt) ∙ letter_reads (Settle b) s
writes_command (Look r) s = ap (by_letter 82) (words_back _ [] (number_form.clear r s) tt) ∙ letter_reads (Look r) s
writes_command (Strike n) s = ap (by_letter 75) (words_back _ [] (number_form.clear n s) tt) ∙ letter_reads (Strike n) s
writes_command (Partner n x z) s =
    ap (by_letter 80) (words_back _ _ (number_form.clear n s.0) (pattern_form.clear x s.1, (pattern_form.clear z s.2, tt)))
    ∙ letter_reads (Partner n x z) s

pub read_law : (xs : List ℕ) (o : Option Command) → o ≡ command_of xs → Reads xs o
read_law xs None e = λ c s w. absurd (none-some c (e ∙ ap command_of (sym w) ∙ writes_command c s))
read_law xs (Some c) e = command_writes xs c (sym e)
