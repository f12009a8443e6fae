-- The two parts of a text at its first mark, and the pieces of a text between its marks; the words of a line are such pieces.
use Rattle.std.specs.Prelude.{ℕ, cond, List, [], ◌∷◌, Some, None, Option, ◌==◌}
use Rattle.std.specs.Borrow.{Bor}

-- what stands before the first mark
abbrev pub front : ℕ → List ℕ → List ℕ
front mark [] = []
front mark (b ∷ bs) = cond (b == mark) [] (b ∷ front mark bs)

-- the first mark and all that stands after it
abbrev pub back : ℕ → List ℕ → List ℕ
back mark [] = []
back mark (b ∷ bs) = cond (b == mark) (b ∷ bs) (back mark bs)

-- one more byte in front of the first piece
abbrev pub onto : ℕ → List (List ℕ) → List (List ℕ)
onto b [] = (b ∷ []) ∷ []
onto b (w ∷ ws) = (b ∷ w) ∷ ws

-- the pieces of a text between its marks, where an empty text has the pieces `none`
abbrev pub pieces : ℕ → List (List ℕ) → List ℕ → List (List ℕ)
pieces mark none [] = none
pieces mark none (b ∷ bs) = cond (b == mark) ([] ∷ pieces mark none bs) (onto b (pieces mark none bs))

-- words stand one space apart; an empty text is one empty word, and so is what follows a last space
abbrev pub words : List ℕ → List (List ℕ)
words = pieces 32 ([] ∷ [])

-- the words behind a space, of a text that is empty or begins with a space
abbrev pub after : List ℕ → List (List ℕ)
after [] = []
after (b ∷ bs) = words bs

-- the words of a text, and none where there is no text
abbrev pub words_left : Option (Bor (List ℕ)) → List (List ℕ)
words_left None = []
words_left (Some text) = words text.now
