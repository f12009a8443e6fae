-- The command that a line stands for: a letter, a space, and words one space apart, each of the form that the letter asks for.
use Rattle.std.specs.Prelude.{ℕ, cond, List, [], ◌∷◌, Some, None, Option, ◌==◌}
use Rattle.words.specs.Numbers.{number_of, pattern_of}
use Rattle.words.specs.Words.{words}
use Rattle.commands.specs.declared.Command.{Command}
use Rattle.commands.specs.declared.Command.TheVariants.{Limit, Enter, Settle, Look, Strike, Partner}

-- goes on with what was read, if it was
abbrev pub then : {A B : Type 0} → Option A → (A → Option B) → Option B
then None go = None
then (Some a) go = go a

-- what a reader makes of the first word, and the words behind it
abbrev pub taken : {A : Type 0} → (List ℕ → Option A) → List (List ℕ) → Option (A × List (List ℕ))
taken read [] = None
taken read (w ∷ ws) = then (read w) (λ a. Some (a, ws))

-- goes on with what a reader makes of the first word, and with the words behind it
abbrev pub word : {A B : Type 0} → (List ℕ → Option A) → List (List ℕ) → (A → List (List ℕ) → Option B) → Option B
word read ws go = then (taken read ws) (λ p. go p.0 p.1)

-- None where a further word is left
abbrev pub none_left : List (List ℕ) → Option (Unit {0})
none_left [] = Some tt
none_left (w ∷ ws) = None

-- a command that no further word follows
abbrev pub last : List (List ℕ) → Command → Option Command
last ws c = then (none_left ws) (λ _. Some c)

-- the letters of the kinds 0, 1 and 2, a sum, a difference and a peak: s, d and p
abbrev pub kind_by_letter : ℕ → Option ℕ
kind_by_letter b = cond (b == 115) (Some 0) (cond (b == 100) (Some 1) (cond (b == 112) (Some 2) None))

-- a word of one such letter
abbrev pub kind_of : List ℕ → Option ℕ
kind_of [] = None
kind_of (b ∷ []) = kind_by_letter b
kind_of (b ∷ c ∷ bs) = None

-- the commands, each from the words behind its letter
abbrev pub limit_of : List (List ℕ) → Option Command
limit_of ws =
    word number_of ws (λ register ws.
    word pattern_of ws (λ low ws.
    word pattern_of ws (λ high ws.
    last ws (Limit register low high))))

abbrev pub enter_of : List (List ℕ) → Option Command
enter_of ws =
    word number_of ws (λ place ws.
    word kind_of ws (λ kind ws.
    word number_of ws (λ modes ws.
    word number_of ws (λ x ws.
    word number_of ws (λ y ws.
    word number_of ws (λ z ws.
    last ws (Enter place record { kind = kind; modes = modes; x = x; y = y; z = z })))))))

abbrev pub settle_of : List (List ℕ) → Option Command
settle_of ws = word number_of ws (λ budget ws. last ws (Settle budget))

abbrev pub look_of : List (List ℕ) → Option Command
look_of ws = word number_of ws (λ register ws. last ws (Look register))

abbrev pub strike_of : List (List ℕ) → Option Command
strike_of ws = word number_of ws (λ place ws. last ws (Strike place))

abbrev pub partner_of : List (List ℕ) → Option Command
partner_of ws =
    word number_of ws (λ place ws.
    word pattern_of ws (λ x ws.
    word pattern_of ws (λ z ws.
    last ws (Partner place x z))))

-- the letters of the commands: L, E, S, R, K and P
abbrev pub by_letter : ℕ → List (List ℕ) → Option Command
by_letter b ws =
    cond (b == 76) (limit_of ws)
    (cond (b == 69) (enter_of ws)
    (cond (b == 83) (settle_of ws)
    (cond (b == 82) (look_of ws)
    (cond (b == 75) (strike_of ws)
    (cond (b == 80) (partner_of ws) None)))))

-- None is a line that stands for no command
abbrev pub command_of : List ℕ → Option Command
command_of [] = None
command_of (b ∷ []) = None
command_of (b ∷ s ∷ bs) = cond (s == 32) (by_letter b (words bs)) None
