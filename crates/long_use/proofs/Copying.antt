-- The limits and lines that a sheet reads back, asked of another: each is carried out there.
use Rattle.std.proofs.Common.{◌≡◌, ℕ, ◌<◌, ◌-◌, false, cond, not, get_or, is_some, ℤ, ◌≤ℤ◌, Some, None, Ok, Err, Option, Result, OnOk, sym, ap, ◌∙◌, subst, ⊎_elim, arith}
use denote.Struct.Props.{props}
use Rattle.std.proofs.Math.Logic.{∥∥₁_elim}
use Rattle.std.proofs.lemmas.Bool.{cases_Bool, cond-false, lt-ltb}
use Rattle.std.proofs.lemmas.Int.{ints}
use Rattle.std.proofs.lemmas.List.{get_or-set_same}
use Rattle.catalogue.specs.declared.types.Range.{Range}
use Rattle.catalogue.specs.declared.types.Refusal.{Refusal}
use Rattle.catalogue.specs.Meanings.{Laws, Meaning}
use Rattle.catalogue.specs.Ranges.{Proper, empty}
use Rattle.catalogue.specs.Refusals.{numbered}
use Rattle.sheet.specs.declared.lines.DrawnLine.{DrawnLine}
use Rattle.sheet.specs.declared.lines.Line.{Line}
use Rattle.sheet.specs.declared.table.Table.{Table}
use Rattle.sheet.specs.Calls.{done, drawn_asked, in_patterns, limit_asked, limits_asked, limits_read, line_asked}
use Rattle.sheet.specs.Histories.{Reached}
use Rattle.sheet.specs.Lines.{checked_line, drawn_of, row_of}
use Rattle.sheet.specs.Numbers.{no_place, no_register}
use Rattle.sheet.specs.Rules.{limits_at, line_at, no_range, stands}
use Rattle.sheet.specs.Words.{IsEnter, SetsLimits}
use Rattle.sheet.proofs.Checking.{checked_again}
use Rattle.sheet.proofs.Kept.{Kept, standing_place}
use Rattle.sheet.proofs.Meets.{empty_from, proper_from}
use Rattle.promise.specs.Promise.{SameLines}
use Rattle.promise.proofs.Histories.{after_sound}
use Rattle.promise.proofs.Sounds.{Sound}

-- ---- limits
not_empty : (a : Range) → Proper a → empty a ≡ false
not_empty a p = ⊎_elim (λ e. absurd (empty_from a e p)) (λ e. e) (cases_Bool (empty a))

abbrev low_read : Result (ℕ × ℕ) ℕ → ℕ
low_read (Ok p) = p.0
low_read (Err e) = 0

abbrev high_read : Result (ℕ × ℕ) ℕ → ℕ
high_read (Ok p) = p.1
high_read (Err e) = 0

module _ (m : Meaning) (laws : Laws m) (t : Table) (reached : ∥ Reached m t ∥₁) (r : ℕ) (lt : r < 32) where
  -- an order that each sound table keeps
  order_kept : (a b : ℤ) → (Sound m t → a ≤ℤ b) → a ≤ℤ b
  order_kept a b h = proper_from (record { low = a; high = b }) (∥∥₁_elim reached (search props) (λ k. not_empty (record { low = a; high = b }) (h (subst (Sound m) (sym k.1) (after_sound m laws k.0)))))

  -- the limits of a sheet are a proper range of readings, so the patterns of their ends are read back to them
  module _ (low high : ℕ) (read : Ok (low, high) ≡ in_patterns m (limits_asked r t)) where
    abbrev a : Range
    a = limits_at t r

    told : in_patterns m (limits_asked r t) ≡ Ok (m.writes a.low, m.writes a.high)
    told = ap (in_patterns m) (cond-false (no_register r) (Err 1) (Ok a) (ap not (lt-ltb r 32 lt)))

    proper : a.low ≤ℤ a.high
    proper = order_kept a.low a.high (λ s. s.proper r lt)

    least : m.least ≤ℤ a.low
    least = order_kept m.least a.low (λ s. (s.readings r lt).0)

    greatest : a.high ≤ℤ m.greatest
    greatest = order_kept a.high m.greatest (λ s. (s.readings r lt).1)

    low_again : m.reads low ≡ Some a.low
    low_again = ap m.reads (ap low_read (read ∙ told)) ∙ laws.writes a.low (least, omega (arith, ints, proper, greatest))

    high_again : m.reads high ≡ Some a.high
    high_again = ap m.reads (ap high_read (read ∙ told)) ∙ laws.writes a.high (omega (arith, ints, proper, least), greatest)

    asked_again : limit_asked m r low high ≡ Ok a
    asked_again =
        cond-false (no_register r) (Err 1) (limits_read (m.reads low) (m.reads high)) (ap not (lt-ltb r 32 lt))
        ∙ ap (λ o. limits_read o (m.reads high)) low_again
        ∙ ap (limits_read (Some a.low)) high_again
        ∙ cond-false (empty a) (Err 3) (Ok a) (not_empty a proper)

    -- limits read back from t and asked of v, which makes w of it
    pub limits_copied : (v w : Table) → Kept v → (o : Result (Unit {0}) Refusal) → numbered o ≡ done (limit_asked m r low high) → OnOk o (SetsLimits m r low high v w) → limits_at w r ≡ limits_at t r
    limits_copied v w kept (Err e) answer words = let h = answer ∙ ap done asked_again in absurd cc
    limits_copied v w kept (Ok x) answer words =
        let b = words.limits in
        let l = sym words.reads_low ∙ low_again in
        let h = sym words.reads_high ∙ high_again in
        let low_same : b.low ≡ a.low = cc in
        let high_same : b.high ≡ a.high = cc in
        let same : b ≡ a = λ i. record { low = low_same i; high = high_same i } in
        ap (λ ls. get_or ls r no_range) words.made.limits ∙ get_or-set_same v.limits r b no_range (let long = kept.formed.limits in omega arith) ∙ same

-- ---- lines
abbrev line_read : Result (Option Line) ℕ → Option Line
line_read (Ok o) = o
line_read (Err e) = None

-- a line read back from place n of t, and tied at the free place k of v, which makes w of it
module _ (t v w : Table) (kept : Kept t) (kept_too : Kept v) (n k : ℕ) (lt : n < 64) (lt_too : k < 64) (l : Line) (d : DrawnLine) where
  pub line_copied : Ok (Some l) ≡ line_asked n t → d ≡ drawn_of (row_of l) → line_at v k ≡ None → (o : Result (Unit {0}) Refusal) → numbered o ≡ drawn_asked k (checked_line d) v → OnOk o ((j : Line) × ((checked_line d ≡ Ok j) × IsEnter k j v w)) → line_at w k ≡ line_at t n
  line_copied read drawn free o answer words = by o answer words
    where
      here : line_at t n ≡ Some l
      here = sym (ap line_read (read ∙ cond-false (no_place n) (Err 7) (Ok (line_at t n)) (ap not (lt-ltb n 64 lt))))

      checked : checked_line d ≡ Ok l
      checked = ap checked_line drawn ∙ checked_again l (kept.formed.passes n l here)

      carried : drawn_asked k (checked_line d) v ≡ Ok tt
      carried = ap (λ q. drawn_asked k q v) checked
          ∙ cond-false (no_place k) (Err 7) (cond (stands v k) (Err 6) (Ok tt)) (ap not (lt-ltb k 64 lt_too))
          ∙ cond-false (stands v k) (Err 6) (Ok tt) (ap is_some free)

      by : (o : Result (Unit {0}) Refusal) → numbered o ≡ drawn_asked k (checked_line d) v → OnOk o ((j : Line) × ((checked_line d ≡ Ok j) × IsEnter k j v w)) → line_at w k ≡ line_at t n
      by (Ok x) e (j, (f, entered)) =
          let same : j ≡ l = let h = checked in cc in
          ap (λ ls. get_or ls k None) entered.lines
          ∙ get_or-set_same v.lines k (Some j) None (let long = kept_too.formed.places in omega arith)
          ∙ ap Some same ∙ sym here
      by (Err e) f words = let h = f ∙ carried in absurd cc

-- the line at each place stands at the place as far from the last
pub lines_moved : (t u : Table) → Kept t → Kept u → ((n : ℕ) → n < 64 → line_at u (63 - n) ≡ line_at t n) → SameLines (line_at t) (line_at u)
lines_moved t u kept kept_too moved = record {
  there = λ l f. record { place = 63 - f.place; here = moved f.place (standing_place t kept.formed f.place (ap is_some f.here)) ∙ f.here };
  back = λ l f.
      let lt : f.place < 64 = standing_place u kept_too.formed f.place (ap is_some f.here) in
      let again : 63 - (63 - f.place) ≡ f.place = omega arith in
      record { place = 63 - f.place; here = sym (moved (63 - f.place) (omega arith)) ∙ ap (line_at u) again ∙ f.here };
}
