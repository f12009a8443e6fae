-- The loop of `digits` keeps this: the number read so far is small, and reading on from it gives the whole numeral.
use Rattle.std.proofs.Common.{◌≡◌, ◌^◌, ◌<◌, drop}
use Rattle.words.specs.Numbers.{numeral}
use Rattle.words.proofs.digits.Given as goal

abbrev pub invariant-loop-byte : goal.invariant-loop-byte
invariant-loop-byte l =
    (l.number < l.base ^ l.byte-index) × (numeral l.base l.number (drop l.byte-index l.word) ≡ numeral l.base 0 l.word)
