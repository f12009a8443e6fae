-- What is read back is what the list of calls says.
use Rattle.std.proofs.Common.{◌≡◌, ℕ, false, ltb, List, Some, None, Ok, Err, Option, ap, sym, ◌∙◌}
use Rattle.std.specs.Option.{IfSome}
use Rattle.std.proofs.lemmas.Bool.{cond-false, ltb-true, not-false}
use Rattle.catalogue.specs.Meanings.{Meaning}
use Rattle.sheet.specs.declared.lines.Line.{Line}
use Rattle.sheet.specs.declared.table.Table.{Table}
use Rattle.sheet.specs.Calls.{in_patterns, limits_asked, line_asked}
use Rattle.sheet.specs.Histories.{Call, after, limits_of, line_of}
use Rattle.sheet.specs.Numbers.{no_place, no_register}
use Rattle.sheet.specs.Rules.{limits_at, line_at}
use Rattle.sheet.specs.Lines.{checked_line, drawn_of, row_of}
use Rattle.sheet.proofs.Checking.{checked_again}
use Rattle.sheet.proofs.Kept.{Kept}
use Rattle.sheet.proofs.Recounts.{limits_after, line_after}

module _ (m : Meaning) (t : Table) (h : List Call) (is : t ≡ after m h) where
  pub limits_words : (r : ℕ) → no_register r ≡ false → (p : ℕ × ℕ) → Ok p ≡ in_patterns m (limits_asked r t) → p ≡ (m.writes (limits_of m h r).low, m.writes (limits_of m h r).high)
  limits_words r named p e =
      let asked = e ∙ ap (in_patterns m) (cond-false (no_register r) (Err 1) (Ok (limits_at t r)) named) in
      let told : p ≡ (m.writes (limits_at t r).low, m.writes (limits_at t r).high) = cc in
      told ∙ ap (λ a. (m.writes a.low, m.writes a.high)) (ap (λ u. limits_at u r) is ∙ limits_after m h r (ltb-true r 32 (not-false (ltb r 32) named)))

  pub line_words : (n : ℕ) → no_place n ≡ false → (o : Option Line) → Ok o ≡ line_asked n t → o ≡ line_of h n
  line_words n named o e =
      let asked = e ∙ cond-false (no_place n) (Err 7) (Ok (line_at t n)) named in
      let told : o ≡ line_at t n = cc in
      told ∙ ap (λ u. line_at u n) is ∙ line_after m h n

-- a line that is read back passes the check again
pub line_again : (t : Table) → Kept t → (n : ℕ) → no_place n ≡ false → (o : Option Line) → Ok o ≡ line_asked n t → IfSome o (λ l. checked_line (drawn_of (row_of l)) ≡ Ok l)
line_again t kept n named None e = tt
line_again t kept n named (Some l) e =
    let asked = e ∙ cond-false (no_place n) (Err 7) (Ok (line_at t n)) named in
    let told : Some l ≡ line_at t n = cc in
    checked_again l (kept.formed.passes n l (sym told))
