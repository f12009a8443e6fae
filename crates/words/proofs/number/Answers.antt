-- No number is written as a word that is no number (Decimals).
use Rattle.std.proofs.Common.{◌≡◌, None, rules}
use Rattle.words.specs.Numbers.{number_of}
use Rattle.words.proofs.Decimals.{number_law}
use Rattle.words.proofs.number.Goals as goal

pub returns-else-sized_as_number-clause-inverts : goal.returns-else-sized_as_number-clause-inverts
returns-else-sized_as_number-clause-inverts c =
    let none : None ≡ number_of c.args.word.now = search rules in
    number_law _ None none
