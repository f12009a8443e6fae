-- What holds of the two parts of a text at its first mark, and how they begin the text's pieces.
use Rattle.std.proofs.Common.{◌≡◌, ℕ, ◌<◌, ◌≤◌, true, false, cond, eqb, ◌⊎◌, List, Some, None, Option, MatchOption, Bor, [], ◌∷◌, ◌++◌, length, get_or, drop, sym, refl, ap, ◌∙◌, inl, inr, arith}
use Rattle.std.proofs.lemmas.List.{append-nil, length-drop}
use Rattle.std.proofs.lemmas.Bool.{eqb-true, eqb-false, cond_both}
use Rattle.std.specs.List.{AllByRecursion}
use Rattle.words.specs.Words.{front, back, pieces, words, words_left, after, onto}
use Rattle.words.specs.Lines.{lines}

front_back : (s : ℕ) (xs : List ℕ) → front s xs ++ back s xs ≡ xs
front_back s [] = refl
front_back s (b ∷ bs) =
    elim (eqb b s) as (λ v. cond v [] (b ∷ front s bs) ++ cond v (b ∷ bs) (back s bs) ≡ b ∷ bs)
    [ true ↦ refl | false ↦ ap (λ t. b ∷ t) (front_back s bs) ]

-- no byte of a list is the mark
abbrev Clear : ℕ → List ℕ → Type 0
Clear s xs = AllByRecursion (λ b. b ≡ s → ⊥) xs

front_clear : (s : ℕ) (xs : List ℕ) → Clear s (front s xs)
front_clear s [] = tt
front_clear s (b ∷ bs) =
    cond_both (eqb b s) [] (b ∷ front s bs) (Clear s) (λ e. tt) (λ e. (eqb-false b s e, front_clear s bs))

-- a list that is not empty begins with the mark
abbrev Starts : ℕ → List ℕ → Type 0
Starts s xs = 0 < length xs → get_or xs 0 0 ≡ s

back_starts : (s : ℕ) (xs : List ℕ) → Starts s (back s xs)
back_starts s [] = λ h. absurd (omega arith)
back_starts s (b ∷ bs) =
    cond_both (eqb b s) (b ∷ bs) (back s bs) (Starts s) (λ e h. eqb-true b s e) (λ e. back_starts s bs)

pub record Parts (s : ℕ) (xs f b : List ℕ) : Type 0 where
  pub whole : f ++ b ≡ xs
  pub clear : Clear s f
  pub stops : Starts s b

pub parts : (s : ℕ) (xs f b : List ℕ) → f ≡ front s xs → b ≡ back s xs → Parts s xs f b
parts s xs f b p q = record { whole = let e = front_back s xs in cc; clear = rw p (front_clear s xs); stops = rw q (back_starts s xs) }

-- the pieces behind the first, of a text that is empty or begins with a mark
abbrev behind : ℕ → List (List ℕ) → List ℕ → List (List ℕ)
behind s none [] = []
behind s none (b ∷ bs) = pieces s none bs

-- where a byte alone is one piece, the part before the first mark is the first piece of a text that is not empty
pieces_split : (s : ℕ) (none : List (List ℕ)) → ((b : ℕ) → onto b none ≡ (b ∷ []) ∷ []) → (b : ℕ) (bs : List ℕ) → pieces s none (b ∷ bs) ≡ front s (b ∷ bs) ∷ behind s none (back s (b ∷ bs))
pieces_split s none one b [] =
    elim (eqb b s) as (λ v. cond v ([] ∷ none) (onto b none) ≡ cond v [] (b ∷ []) ∷ behind s none (cond v (b ∷ []) []))
    [ true ↦ refl | false ↦ one b ]
pieces_split s none one b (c ∷ bs) =
    elim (eqb b s) as (λ v. cond v ([] ∷ pieces s none (c ∷ bs)) (onto b (pieces s none (c ∷ bs))) ≡ cond v [] (b ∷ front s (c ∷ bs)) ∷ behind s none (cond v (b ∷ c ∷ bs) (back s (c ∷ bs))))
    [ true ↦ refl | false ↦ ap (onto b) (pieces_split s none one c bs) ]

behind_after : (xs : List ℕ) → behind 32 ([] ∷ []) xs ≡ after xs
behind_after [] = refl
behind_after (b ∷ bs) = refl

pub words_split : (xs : List ℕ) → words xs ≡ front 32 xs ∷ after (back 32 xs)
words_split [] = refl
words_split (b ∷ bs) =
    pieces_split 32 ([] ∷ []) (λ c. refl) b bs ∙ ap (λ t. front 32 (b ∷ bs) ∷ t) (behind_after (back 32 (b ∷ bs)))

-- one word is taken, and the text r from its space on is left
pub words_taken : (xs w r : List ℕ) (left : Option (Bor (List ℕ))) → w ≡ front 32 xs → r ≡ back 32 xs → MatchOption left (r ≡ []) (λ t. (0 < length r) × (t.now ≡ drop 1 r)) → words xs ≡ w ∷ words_left left
words_taken xs w r left p q behind = words_split xs ∙ ap (λ t. t ∷ after (back 32 xs)) (sym p) ∙ ap (λ t. w ∷ t) (ap after (sym q) ∙ after_left r left behind)
  where
    after_left : (r : List ℕ) (left : Option (Bor (List ℕ))) → MatchOption left (r ≡ []) (λ t. (0 < length r) × (t.now ≡ drop 1 r)) → after r ≡ words_left left
    after_left r None e = ap after e
    after_left [] (Some t) e = absurd (omega (arith, e.0))
    after_left (b ∷ bs) (Some t) e = ap words (sym e.1)

behind_lines : (xs : List ℕ) → behind 10 [] xs ≡ lines (drop 1 xs)
behind_lines [] = refl
behind_lines (b ∷ bs) = refl

lines_split : (xs : List ℕ) → 0 < length xs → lines xs ≡ front 10 xs ∷ lines (drop 1 (back 10 xs))
lines_split [] h = absurd (omega arith)
lines_split (b ∷ bs) h =
    pieces_split 10 [] (λ c. refl) b bs ∙ ap (λ t. front 10 (b ∷ bs) ∷ t) (behind_lines (back 10 (b ∷ bs)))

back_le : (s : ℕ) (xs : List ℕ) → length (back s xs) ≤ length xs
back_le s [] = omega arith
back_le s (b ∷ bs) =
    let h = back_le s bs in
    elim (eqb b s) as (λ v. length (cond v (b ∷ bs) (back s bs)) ≤ length (b ∷ bs)) [ true ↦ omega arith | false ↦ omega arith ]

-- a text is cut at its line feed, or has none
feed : (xs l b : List ℕ) → Parts 10 xs l b → (l ++ (10 ∷ drop 1 b) ≡ xs) ⊎ ((l ≡ xs) × (drop 1 b ≡ []))
feed xs l [] p = inr (sym (append-nil l) ∙ p.whole, refl)
feed xs l (c ∷ b) p = inl (ap (λ x. l ++ (x ∷ b)) (sym (p.stops (omega arith))) ∙ p.whole)

-- a line l and the rest r that a text has behind it
pub record Line (xs l r : List ℕ) : Type 0 where
  pub clear : Clear 10 l
  pub whole : (l ++ (10 ∷ r) ≡ xs) ⊎ ((l ≡ xs) × (r ≡ []))
  pub lines : 0 < length xs → lines xs ≡ l ∷ lines r
  pub shorter : 0 < length xs → length r < length xs

pub line_parts : (xs l r : List ℕ) → l ≡ front 10 xs → r ≡ drop 1 (back 10 xs) → Line xs l r
line_parts xs l r p q =
    let w = parts 10 xs l (back 10 xs) p refl in
    record {
      clear = w.clear;
      whole = rw q (feed xs l (back 10 xs) w);
      lines = λ h. let s = lines_split xs h in cc;
      shorter = λ h. rw q (simp length-drop (omega (arith, back_le 10 xs)));
    }
