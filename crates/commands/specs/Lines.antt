-- The line that a command is written as, and what it means that lines are read as the commands that are written so.
use Rattle.std.specs.Prelude.{◌≡◌, ℕ, ◌^◌, ◌<◌, cond, List, [], ◌∷◌, ◌++◌, Some, None, decimal, Option, ◌==◌, ◌≢◌}
use Rattle.words.specs.Numbers.{written}
use Rattle.commands.specs.declared.Command.{Command}
use Rattle.commands.specs.declared.Command.TheVariants.{Limit, Enter, Settle, Look, Strike, Partner}

-- s, d and p, of the kinds 0, 1 and 2
abbrev pub kind_letter : ℕ → ℕ
kind_letter k = cond (k == 0) 115 (cond (k == 1) 100 112)

-- L, E, S, R, K and P
abbrev pub letter_of : Command → ℕ
letter_of (Limit register low high) = 76
letter_of (Enter place drawn) = 69
letter_of (Settle budget) = 83
letter_of (Look register) = 82
letter_of (Strike place) = 75
letter_of (Partner place x z) = 80

-- the words behind the letter
abbrev pub words_of : Command → List (List ℕ)
words_of (Limit register low high) = decimal register ∷ written low ∷ written high ∷ []
words_of (Enter place drawn) =
    decimal place ∷ (kind_letter drawn.kind ∷ []) ∷ decimal drawn.modes ∷ decimal drawn.x ∷ decimal drawn.y ∷ decimal drawn.z ∷ []
words_of (Settle budget) = decimal budget ∷ []
words_of (Look register) = decimal register ∷ []
words_of (Strike place) = decimal place ∷ []
words_of (Partner place x z) = decimal place ∷ written x ∷ written z ∷ []

-- words, each behind a space
abbrev pub spaced : List (List ℕ) → List ℕ
spaced [] = []
spaced (w ∷ ws) = 32 ∷ (w ++ spaced ws)

abbrev pub line_of : Command → List ℕ
line_of c = letter_of c ∷ spaced (words_of c)

-- a number has at most five digits
abbrev pub Number : ℕ → Type 0
Number n = n < 100000

abbrev pub Pattern : ℕ → Type 0
Pattern n = n < 2 ^ 32

-- a kind is 0, 1 or 2
abbrev pub Kind : ℕ → Type 0
Kind k = k < 3

-- the numbers, patterns and kinds of a command are such
abbrev pub Sized : Command → Type 0
Sized (Limit register low high) = Number register × Pattern low × Pattern high
Sized (Enter place drawn) =
    Number place × Kind drawn.kind × Number drawn.modes × Number drawn.x × Number drawn.y × Number drawn.z
Sized (Settle budget) = Number budget
Sized (Look register) = Number register
Sized (Strike place) = Number place
Sized (Partner place x z) = Number place × Pattern x × Pattern z

-- a line is read as the command that is written so, and as none where no command is
abbrev pub Reads : List ℕ → Option Command → Type 0
Reads line None = (c : Command) → Sized c → line_of c ≢ line
Reads line (Some c) = Sized c × (line_of c ≡ line)
