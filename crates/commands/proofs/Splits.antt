-- The parts of a line that a slice pattern names, in the words of the specs.
use Rattle.std.proofs.Common.{◌≡◌, ℕ, ◌-◌, ◌<◌, eqb, List, [], ◌∷◌, length, get_or, take, drop, Option, sym, ap, ◌∙◌, arith}
use Rattle.std.proofs.lemmas.List.{take_all}
use Rattle.std.proofs.lemmas.Bool.{cond-true, eq-eqb}
use Rattle.words.specs.Words.{words}
use Rattle.commands.specs.Commands.{command_of, by_letter}
use Rattle.commands.specs.declared.Command.{Command}

-- `[letter, b' ', text @ ..]`
pub command_at : (xs : List ℕ) (o : Option Command) → 1 < length xs → get_or xs 1 0 ≡ 32 → o ≡ by_letter (get_or xs 0 0) (words (take (length xs - 2) (drop 2 xs))) → o ≡ command_of xs
command_at [] o h e q = absurd (omega arith)
command_at (b ∷ []) o h e q = absurd (omega arith)
command_at (b ∷ s ∷ bs) o h e q =
    q
    ∙ ap (λ t. by_letter b (words t)) (take_all (length (b ∷ s ∷ bs) - 2) bs (omega arith))
    ∙ sym (cond-true (eqb s 32) _ _ (eq-eqb s 32 e))
