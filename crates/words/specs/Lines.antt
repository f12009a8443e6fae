-- The lines of a script.
use Rattle.std.specs.Prelude.{ℕ, List, []}
use Rattle.words.specs.Words.{pieces}

-- each line ends in a line feed, which the last may lack; nothing follows a final line feed
abbrev pub lines : List ℕ → List (List ℕ)
lines = pieces 10 []
