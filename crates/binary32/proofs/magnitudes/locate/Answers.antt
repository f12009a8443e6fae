-- `locate`: aligned, the significands fit, and their sum lies where the sum of the magnitudes does (Apart).
use Rattle.std.proofs.Common.{◌≡◌, ℕ, ◌-◌, ◌*◌, ◌^◌, ◌≤◌, subst, arith}
use Rattle.binary32.specs.Units.{units}
use Rattle.binary32.specs.Locations.{LiesAt, joined, scale_of, significand_of}
use Rattle.binary32.proofs.Apart.{high_top, low_le, near_sum}
use Rattle.binary32.proofs.magnitudes.locate.Goals as goal

pub shifted-high-requires : goal.shifted-high-requires
shifted-high-requires c =
    let near : scale_of c.args.big - scale_of c.args.small ≤ 39 = omega arith in
    let t = high_top c.args.big c.args.small c.requires.order near in
    record {
      place = omega arith;
      room = simp (c.significand.ensures.value, c.scale.ensures, c.scale-base.ensures) (omega (arith, t));
    }

pub aligned-requires : goal.aligned-requires
aligned-requires c =
    let near : scale_of c.args.big - scale_of c.args.small ≤ 39 = omega arith in
    let t = high_top c.args.big c.args.small c.requires.order near in
    let l = low_le c.args.big c.args.small c.requires.order near in
    let h : c.shifted-high.result ≡ significand_of c.args.big * 2 ^ (scale_of c.args.big - scale_of c.args.small) = cc in
    record { fits = omega (arith, t, c.significand-low.ensures.bits); order = omega (arith, l, c.significand-low.ensures.value) }

pub returns : goal.returns
returns c =
    let near : scale_of c.args.big - scale_of c.args.small ≤ 39 = omega arith in
    let e = near_sum c.args.big c.args.small c.requires.order near c.args.like in
    let a : c.aligned.result * 2 ^ c.scale-base.result ≡ joined c.args.like (units c.args.big) (units c.args.small) = cc in
    subst (λ (n : ℕ). LiesAt n c.locate_scaled.result) a c.locate_scaled.ensures
