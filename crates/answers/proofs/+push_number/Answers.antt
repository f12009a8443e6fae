use Rattle.std.proofs.Common.{◌≡◌, ◌+◌, ◌/◌, ◌%◌, [], ◌∷◌, ◌++◌, length, decimal, ap, ◌∙◌, sym, append_assoc, length-append, arith}
use Rattle.std.proofs.lemmas.Fmt.{decimal_step}
use Rattle.words.specs.Numbers.{glyph_of}
use Rattle.answers.proofs.Lengths.{one_more}
use Rattle.answers.proofs.+push_number.Goals as goal

-- the digits before the last fit, if all do
pub push_number-requires : goal.push_number-requires
push_number-requires t c =
    (omega (arith, c.decreases, c.if-number-lt10.false), omega (arith, c.requires, one_more c.args.number c.if-number-lt10.false c.ranges.number.fits))

-- and they leave room for it
pub push_digit-requires-else-number-lt10-clause-room : goal.push_digit-requires-else-number-lt10-clause-room
push_digit-requires-else-number-lt10-clause-room t c =
    omega (
      arith,
      c.requires,
      one_more c.args.number c.if-number-lt10.false c.ranges.number.fits,
      ap length c.push_number.ensures ∙ length-append c.args.text.now.bytes (decimal (c.args.number / 10)),
    )

-- and both make the number
pub returns-else-number-lt10 : goal.returns-else-number-lt10
returns-else-number-lt10 t c =
    let digit : glyph_of (c.args.number % 10) ≡ 48 + c.args.number % 10 = grind arith in
    c.push_digit-else-number-lt10.ensures.digit ∙ ap (λ d. c.push_number.new.text.bytes ++ d ∷ []) digit
    ∙ ap (λ bs. bs ++ (48 + c.args.number % 10) ∷ []) c.push_number.ensures ∙ append_assoc c.args.text.now.bytes _ _
    ∙ ap (λ ds. c.args.text.now.bytes ++ ds) (sym (decimal_step c.args.number c.if-number-lt10.false (omega (arith, c.ranges.number.fits))))
