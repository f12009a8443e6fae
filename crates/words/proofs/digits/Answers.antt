-- `digits` reads a numeral digit by digit, and no number on the way is too large (Numerals).
use Rattle.std.proofs.Common.{◌+◌, ◌*◌, ◌^◌, ◌<◌, length, sym, refl, ◌∙◌, arith}
use native.Mathlib.Nat.{pow-zero}
use Rattle.std.proofs.lemmas.List.{at_drop_all}
use Rattle.words.specs.Numbers.{numeral}
use Rattle.words.proofs.Numerals.{numeral_more, numeral_stop, is_digit, no_digit, grows}
use Rattle.words.proofs.digits.Goals as goal

pub loop-byte-init : goal.loop-byte-init
loop-byte-init c = (omega (arith, pow-zero c.args.base), refl)

pub overflow_mul-number : goal.overflow_mul-number
overflow_mul-number c =
    omega (arith, grows c.args.base c.loop-byte.number 0 c.loop-byte.byte-index (length c.args.word.now) c.requires.base.0 c.loop-byte.invariant.0 c.loop-byte-test.true c.requires.fits c.requires.base.0)

pub returns-in_err-number : goal.returns-in_err-number
returns-in_err-number c =
    let s = numeral_stop c.args.base c.loop-byte.number c.args.word.now c.loop-byte.byte-index c.loop-byte-test.true (no_digit _ _ c.in_err-number.ensures) in
    c.from_residual.ensures ∙ sym s ∙ c.loop-byte.invariant.1

step : (c : goal.In_ok-number) → (c.loop-byte.number * c.args.base + c.in_ok-number.field-0 < c.args.base ^ (c.loop-byte.byte-index + 1)) × (c.loop-byte.number * c.args.base + c.in_ok-number.field-0 < 2 ^ 32)
step c =
    let d = is_digit _ _ _ c.in_ok-number.ensures in
    grows c.args.base c.loop-byte.number c.in_ok-number.field-0 c.loop-byte.byte-index (length c.args.word.now) c.requires.base.0 c.loop-byte.invariant.0 c.loop-byte-test.true c.requires.fits (omega (arith, d.0, d.1))

pub overflow_add-number : goal.overflow_add-number
overflow_add-number c = omega (arith, step c)

pub loop-byte-preserved : goal.loop-byte-preserved
loop-byte-preserved c =
    let d = is_digit _ _ _ c.in_ok-number.ensures in
    let m = numeral_more c.args.base c.loop-byte.number c.args.word.now c.loop-byte.byte-index c.loop-byte-test.true d.0 in
    ((step c).0, rw d.1 (sym m ∙ c.loop-byte.invariant.1))

pub returns : goal.returns
returns c = sym (at_drop_all (numeral c.args.base c.loop-byte.number) c.args.word.now c.loop-byte.byte-index c.loop-byte-test.false) ∙ c.loop-byte.invariant.1
