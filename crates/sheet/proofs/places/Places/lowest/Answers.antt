use Rattle.std.proofs.Common.{◌≡◌, ℕ, ◌^◌, ◌<◌, true, false, sym, ap, ◌∙◌, eqb}
use Rattle.sheet.specs.declared.places.Places.{Places}
use Rattle.sheet.specs.Bits.{set_of}
use Rattle.sheet.specs.Places.{is_none}
use Rattle.sheet.proofs.PlaceBits.{is_zero, low_bit, low_first}
use Rattle.sheet.proofs.PlaceSets.{empty_has, no_place_first}
use Rattle.sheet.proofs.places.Places.lowest.Goals as goal

zero_test : (b : ℕ) → b < 2 ^ 64 → (s : Places) → set_of b ≡ s → is_none s ≡ false → eqb b 0 ≡ false
zero_test b below s view e = is_zero b below ∙ ap is_none view ∙ e

pub invariant_of-result : goal.invariant_of-result
invariant_of-result c = (low_bit c.self.inside.bits c.self.invariant (zero_test c.self.inside.bits c.self.invariant c.args.self c.self.view_is (sym c.is_none.ensures ∙ c.if-is_none.false))).0

pub returns-then-is_none : goal.returns-then-is_none
returns-then-is_none c =
    let e : is_none c.args.self ≡ true = sym c.is_none.ensures ∙ c.if-is_none.true in
    record { value = sym (no_place_first c.args.self e); words = empty_has c.args.self e }

pub returns-else-is_none : goal.returns-else-is_none
returns-else-is_none c =
    let b = c.self.inside.bits in
    let e = zero_test b c.self.invariant c.args.self c.self.view_is (sym c.is_none.ensures ∙ c.if-is_none.false) in
    rw (← c.self.view_is) (record { value = low_first b c.self.invariant e; words = low_bit b c.self.invariant e })
