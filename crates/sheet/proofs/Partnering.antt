-- What partner answers, in words: the line that the list of calls puts at a place decides, and the catalogue's law says what is named.
use Rattle.std.proofs.Common.{◌≡◌, ◌≢◌, ℕ, ℤ, true, false, not, List, is_some, Some, None, Ok, Err, Option, Result, sym, refl, ap, ◌∙◌, subst}
use Rattle.std.proofs.lemmas.Bool.{cond-false, lt-ltb, or_from}
use Rattle.catalogue.specs.declared.types.Refusal.{Refusal}
use Rattle.catalogue.specs.Meanings.{Laws, Meaning}
use Rattle.catalogue.specs.Partners.{SomeOf}
use Rattle.catalogue.specs.Refusals.{numbered}
use Rattle.sheet.specs.declared.lines.Line.{Line}
use Rattle.sheet.specs.declared.table.State.{State}
use Rattle.sheet.specs.declared.table.State.TheVariants.{Settled, Open, Void}
use Rattle.sheet.specs.declared.table.Table.{Table}
use Rattle.sheet.specs.Calls.{is_void, no_line, partner_asked, partner_named, partner_of, pattern_or_none, ranks_read}
use Rattle.sheet.specs.Histories.{Call, after, line_of}
use Rattle.sheet.specs.Numbers.{no_place}
use Rattle.sheet.specs.Rules.{line_at, range_at, stands}
use Rattle.sheet.specs.Words.{IsPartnerAnswer}
use Rattle.sheet.proofs.Kept.{Formed, kept_after, standing_place}
use Rattle.sheet.proofs.Recounts.{line_after}

not_void : (s : State) → s ≢ Void → is_void s ≡ false
not_void Settled ne = refl
not_void Open ne = refl
not_void Void ne = absurd (ne refl)

module _ (m : Meaning) (laws : Laws m) (t : Table) (h : List Call) (is : t ≡ after m h) (n x z : ℕ) (l : Line) (here : line_of h n ≡ Some l) (a c : ℤ) (reads_x : m.reads x ≡ Some a) (reads_z : m.reads z ≡ Some c) (live : t.state ≢ Void) where
  at_n : line_at t n ≡ Some l
  at_n = ap (λ u. line_at u n) is ∙ line_after m h n ∙ here

  stands_here : stands t n ≡ true
  stands_here = ap is_some at_n

  there : no_line n t ≡ false
  there = or_from (no_place n) (not (stands t n))
      (ap not (lt-ltb n 64 (standing_place t (subst (λ u. Formed u) (sym is) (kept_after m h).formed) n stands_here)))
      (ap not stands_here)

  asked : partner_asked m n x z t ≡ Ok (pattern_or_none m (partner_named m l (a, c) t))
  asked =
      cond-false (no_line n t) (Err 7) (partner_of m (line_at t n) (ranks_read (m.reads x) (m.reads z)) t) there
      ∙ ap (λ o. partner_of m o (ranks_read (m.reads x) (m.reads z)) t) at_n
      ∙ ap (λ o. partner_of m (Some l) (ranks_read o (m.reads z)) t) reads_x
      ∙ ap (λ o. partner_of m (Some l) (ranks_read (Some a) o) t) reads_z
      ∙ cond-false (is_void t.state) (Err 9) (Ok (pattern_or_none m (partner_named m l (a, c) t))) (not_void t.state live)

  by_choice : (y : Option ℤ) → SomeOf (range_at t l.y) (λ v. m.allowed l.operation.kind l.operation.modes a v c) y → IsPartnerAnswer m l a c t (Ok (pattern_or_none m y))
  by_choice None s = λ v k. s v k
  by_choice (Some v) s = (v, (s.0, (s.1, refl)))

  pub partner_words : (r : Result (Option ℕ) Refusal) → numbered r ≡ partner_asked m n x z t → IsPartnerAnswer m l a c t r
  partner_words (Err e) same = let h = same ∙ asked in absurd cc
  partner_words (Ok o) same =
      let h = same ∙ asked in
      let e : pattern_or_none m (partner_named m l (a, c) t) ≡ o = cc in
      subst (λ q. IsPartnerAnswer m l a c t (Ok q)) e (by_choice (partner_named m l (a, c) t) (laws.partner l.operation.kind l.operation.modes a c (range_at t l.y)))
