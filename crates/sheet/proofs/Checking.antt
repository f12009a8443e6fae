-- A line that passes the check is made again from its row by the check.
use Rattle.std.proofs.Common.{◌≡◌, ℕ, ◌<◌, true, false, cond, not, ◌&&◌, ◌||◌, eqb, ltb, Some, Ok, Err, Result, refl, ap, ◌∙◌, arith}
use Rattle.std.proofs.lemmas.Bool.{and_from, and_parts, cond-false, le-ltb, lt-ltb, ltb-true, ne_eqb, or_from}
use Rattle.catalogue.specs.declared.types.Kind.{Kind}
use Rattle.catalogue.specs.declared.types.Kind.TheVariants.{Sum, Difference, Peak}
use Rattle.catalogue.specs.Numbers.{kind_number, kind_of}
use Rattle.sheet.specs.declared.lines.CheckedLine.{CheckedLine}
use Rattle.sheet.specs.declared.lines.Line.{Line}
use Rattle.sheet.specs.Histories.{passes_check}
use Rattle.sheet.specs.Lines.{checked_line, checked_line_of, drawn_of, row_of}

kind_again : (k : Kind) → kind_of (kind_number k) ≡ Some k
kind_again Sum = refl
kind_again Difference = refl
kind_again Peak = refl

pub checked_again : (l : Line) → passes_check l ≡ true → checked_line (drawn_of (row_of l)) ≡ Ok l
checked_again l p =
    let s = l.operation.modes.bits in
    let d = drawn_of (row_of l) in
    let parts = and_parts (ltb 0 s && ltb s 16) (ltb l.x 32 && (ltb l.y 32 && ltb l.z 32)) p in
    let modes = and_parts (ltb 0 s) (ltb s 16) parts.0 in
    let some_mode : 0 < s = ltb-true 0 s modes.0 in
    let no_other : s < 16 = ltb-true s 16 modes.1 in
    let x = and_parts (ltb l.x 32) (ltb l.y 32 && ltb l.z 32) parts.1 in
    let yz = and_parts (ltb l.y 32) (ltb l.z 32) x.1 in
    let bad_modes : (eqb s 0 || ltb 15 s) ≡ false = or_from (eqb s 0) (ltb 15 s) (ne_eqb s 0 (λ e. omega arith)) (le-ltb 15 s (omega arith)) in
    let bad : (not (ltb l.x 32) || (not (ltb l.y 32) || not (ltb l.z 32))) ≡ false = or_from (not (ltb l.x 32)) _ (ap not x.0) (or_from (not (ltb l.y 32)) (not (ltb l.z 32)) (ap not yz.0) (ap not yz.1)) in
    let here : Result Line ℕ = cond (not (ltb l.x 32) || (not (ltb l.y 32) || not (ltb l.z 32))) (Err 1) (Ok l) in
    ap (λ k. checked_line_of k d) (kind_again l.operation.kind)
    ∙ cond-false (eqb s 0 || ltb 15 s) (Err 5) here bad_modes
    ∙ cond-false (not (ltb l.x 32) || (not (ltb l.y 32) || not (ltb l.z 32))) (Err 1) (Ok l) bad

-- a checked line passes the check
pub checked_passes : (c : CheckedLine) → passes_check c.line ≡ true
checked_passes c =
    let l = c.line in
    let s = l.operation.modes.bits in
    and_from (ltb 0 s && ltb s 16) (ltb l.x 32 && (ltb l.y 32 && ltb l.z 32))
    (and_from (ltb 0 s) (ltb s 16) (lt-ltb 0 s c.some_mode) (lt-ltb s 16 c.no_other_mode))
    (and_from (ltb l.x 32) (ltb l.y 32 && ltb l.z 32) (lt-ltb l.x 32 c.x_exists) (and_from (ltb l.y 32) (ltb l.z 32) (lt-ltb l.y 32 c.y_exists) (lt-ltb l.z 32 c.z_exists)))
