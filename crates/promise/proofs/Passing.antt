-- What the check answers passes it.
use Rattle.std.proofs.Common.{◌≡◌, ℕ, true, cond, not, ◌&&◌, ◌||◌, eqb, ltb, Some, None, Ok, Err, Option, Result, arith}
use Rattle.std.proofs.lemmas.Bool.{and_from, or_parts, cond_both, eqb-false, ltb-false, lt-ltb, not-false}
use Rattle.catalogue.specs.declared.types.Kind.{Kind}
use Rattle.sheet.specs.declared.lines.DrawnLine.{DrawnLine}
use Rattle.sheet.specs.declared.lines.Line.{Line}
use Rattle.catalogue.specs.Numbers.{kind_of}
use Rattle.sheet.specs.Lines.{checked_line, checked_line_of}
use Rattle.promise.specs.Histories.{passes_check}

abbrev pub Passed : Result Line ℕ → Type 0
Passed (Ok l) = passes_check l ≡ true
Passed (Err e) = Unit {0}

pub checked_passed : (d : DrawnLine) → Passed (checked_line d)
checked_passed d = by (kind_of d.kind)
  where
    by : (o : Option Kind) → Passed (checked_line_of o d)
    by None = tt
    by (Some k) =
        let l : Line = record { operation = record { kind = k; modes = record { bits = d.modes } }; x = d.x; y = d.y; z = d.z } in
        cond_both (eqb d.modes 0 || ltb 15 d.modes) (Err 5) (cond (not (ltb d.x 32) || (not (ltb d.y 32) || not (ltb d.z 32))) (Err 1) (Ok l)) Passed
        (λ _. tt)
        (λ e. let modes = or_parts (eqb d.modes 0) (ltb 15 d.modes) e in
        cond_both (not (ltb d.x 32) || (not (ltb d.y 32) || not (ltb d.z 32))) (Err 1) (Ok l) Passed
        (λ _. tt)
        (λ f.
        let x = or_parts (not (ltb d.x 32)) (not (ltb d.y 32) || not (ltb d.z 32)) f in
        let yz = or_parts (not (ltb d.y 32)) (not (ltb d.z 32)) x.1 in
        let some = eqb-false d.modes 0 modes.0 in
        let few = ltb-false 15 d.modes modes.1 in
        and_from (ltb 0 d.modes && ltb d.modes 16) (ltb d.x 32 && (ltb d.y 32 && ltb d.z 32))
        (and_from (ltb 0 d.modes) (ltb d.modes 16) (lt-ltb 0 d.modes (omega (arith, some))) (lt-ltb d.modes 16 (omega arith)))
        (and_from (ltb d.x 32) (ltb d.y 32 && ltb d.z 32) (not-false (ltb d.x 32) x.0) (and_from (ltb d.y 32) (ltb d.z 32) (not-false (ltb d.y 32) yz.0) (not-false (ltb d.z 32) yz.1)))))
