-- `locate_scaled`: a short sum moves up and is exact, a long one moves down and drops bits (Scaled).
use Rattle.std.proofs.Common.{ℕ, ◌*◌, ◌^◌, ◌<◌, sym, ap, ◌∙◌, subst, zero-mul, arith}
use Rattle.binary32.specs.Units.{units}
use Rattle.binary32.specs.Locations.{Lies}
use Rattle.binary32.specs.Floors.{units_low}
use Rattle.binary32.proofs.Scaled.{wide, up_top, up_exact, down_kept, down_lies}
use Rattle.binary32.proofs.magnitudes.locate_scaled.Goals as goal

pub returns-then-sum-eq0 : goal.returns-then-sum-eq0
returns-then-sum-eq0 c = ap (λ (x : ℕ). x * 2 ^ c.args.scale) c.if-sum-eq0.true ∙ zero-mul (2 ^ c.args.scale) ∙ sym (units_low 0 (omega arith))

pub shifted-requires : goal.shifted-requires
shifted-requires c =
    let f = wide c.args.sum c.ranges.sum.fits in
    let p : 0 < c.args.sum = omega arith in
    let t = up_top _ c.args.scale _ _ f p c.if-width-le-SIGNIFICAND_BITS.true c.requires c.room-up.ensures in
    record { place = omega arith; room = omega (arith, t) }

pub overflow_cast-shifted : goal.overflow_cast-shifted
overflow_cast-shifted c =
    let f = wide c.args.sum c.ranges.sum.fits in
    let p : 0 < c.args.sum = omega arith in
    omega (arith, up_top _ c.args.scale _ _ f p c.if-width-le-SIGNIFICAND_BITS.true c.requires c.room-up.ensures)

pub magnitude_of-requires : goal.magnitude_of-requires
magnitude_of-requires c =
    let f = wide c.args.sum c.ranges.sum.fits in
    let p : 0 < c.args.sum = omega arith in
    let t = up_top _ c.args.scale _ _ f p c.if-width-le-SIGNIFICAND_BITS.true c.requires c.room-up.ensures in
    record { scale = omega arith; bits = omega (arith, t) }

pub returns-then-width-le-SIGNIFICAND_BITS : goal.returns-then-width-le-SIGNIFICAND_BITS
returns-then-width-le-SIGNIFICAND_BITS c =
    let f = wide c.args.sum c.ranges.sum.fits in
    let p : 0 < c.args.sum = omega arith in
    up_exact _ _ _ _ f p c.if-width-le-SIGNIFICAND_BITS.true c.requires c.room-up.ensures ∙ ap units (omega arith)

pub overflow_cast-kept-else-width-le-SIGNIFICAND_BITS : goal.overflow_cast-kept-else-width-le-SIGNIFICAND_BITS
overflow_cast-kept-else-width-le-SIGNIFICAND_BITS c =
    let f = wide c.args.sum c.ranges.sum.fits in
    let p : 0 < c.args.sum = omega arith in
    omega (arith, down_kept _ _ _ f p c.if-width-le-SIGNIFICAND_BITS.false c.requires)

pub magnitude_of-requires-else-width-le-SIGNIFICAND_BITS-clause-bits : goal.magnitude_of-requires-else-width-le-SIGNIFICAND_BITS-clause-bits
magnitude_of-requires-else-width-le-SIGNIFICAND_BITS-clause-bits c =
    let f = wide c.args.sum c.ranges.sum.fits in
    let p : 0 < c.args.sum = omega arith in
    down_kept _ _ _ f p c.if-width-le-SIGNIFICAND_BITS.false c.requires

pub returns-else-width-le-SIGNIFICAND_BITS : goal.returns-else-width-le-SIGNIFICAND_BITS
returns-else-width-le-SIGNIFICAND_BITS c =
    let f = wide c.args.sum c.ranges.sum.fits in
    let p : 0 < c.args.sum = omega arith in
    let d = simp (c.shifted-else-width-le-SIGNIFICAND_BITS.ensures, c.shifted-else-width-le-SIGNIFICAND_BITS-2.ensures) at c.rest_dropped.ensures in
    subst (λ (t : ℕ). Lies (c.args.sum * 2 ^ c.args.scale) t c.rest_dropped.result) (sym c.magnitude_of-else-width-le-SIGNIFICAND_BITS.ensures)
    (down_lies _ _ _ f p c.if-width-le-SIGNIFICAND_BITS.false c.requires c.rest_dropped.result d)
