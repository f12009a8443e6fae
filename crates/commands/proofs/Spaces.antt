-- Words and the spaces between them.
use Rattle.std.proofs.Common.{◌≡◌, ℕ, eqb, List, [], ◌∷◌, ◌++◌, sym, refl, ap, ◌∙◌, ⊎_elim, arith}
use Rattle.std.proofs.lemmas.Bool.{cond-true, cond-false, ne_eqb, eqb-true, cases_Bool}
use Rattle.std.specs.List.{AllByRecursion}
use Rattle.words.specs.Words.{words, onto}
use Rattle.commands.specs.Lines.{spaced}

-- no space stands in a word
abbrev pub Clear : List ℕ → Type 0
Clear w = AllByRecursion (λ b. b ≡ 32 → ⊥) w

words_word : (w : List ℕ) (ws : List (List ℕ)) → Clear w → words (spaced ws) ≡ [] ∷ ws → words (w ++ spaced ws) ≡ w ∷ ws
words_word [] ws clear e = e
words_word (b ∷ w) ws clear e =
    cond-false _ _ _ (ne_eqb b 32 clear.0) ∙ ap (onto b) (words_word w ws clear.1 e)

words_spaced : (ws : List (List ℕ)) → AllByRecursion Clear ws → words (spaced ws) ≡ [] ∷ ws
words_spaced [] clear = refl
words_spaced (w ∷ ws) clear = ap (λ t. [] ∷ t) (words_word w ws clear.0 (words_spaced ws clear.1))

-- the words of a text that was put together from words
pub words_back : (w : List ℕ) (ws : List (List ℕ)) → Clear w → AllByRecursion Clear ws → words (w ++ spaced ws) ≡ w ∷ ws
words_back w ws clear all = words_word w ws clear (words_spaced ws all)

spaced_onto : (b : ℕ) (ws : List (List ℕ)) (bs : List ℕ) → spaced ws ≡ 32 ∷ bs → spaced (onto b ws) ≡ 32 ∷ b ∷ bs
spaced_onto b [] bs e = absurd (let z : ◌≡◌ {A = ℕ} 0 1 = cc in omega arith)
spaced_onto b (w ∷ ws) bs e = let h : w ++ spaced ws ≡ bs = cc in ap (λ t. 32 ∷ b ∷ t) h

-- a text is put together from its words
pub spaced_words : (xs : List ℕ) → spaced (words xs) ≡ 32 ∷ xs
spaced_words [] = refl
spaced_words (b ∷ bs) =
    let h = spaced_words bs in
    ⊎_elim
    (λ t. ap spaced (cond-true _ _ _ t) ∙ ap (λ s. 32 ∷ s) h ∙ ap (λ c. 32 ∷ c ∷ bs) (sym (eqb-true b 32 t)))
    (λ f. ap spaced (cond-false _ _ _ f) ∙ spaced_onto b (words bs) bs h)
    (cases_Bool (eqb b 32))
