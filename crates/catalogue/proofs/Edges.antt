-- The end of what passes in a range, from what a search finds, and at once where the end that it begins at passes.
use Rattle.std.proofs.Common.{◌≡◌, ℕ, ◌^◌, ◌<◌, ◌≤◌, Bool, true, false, not, ℤ, pos, ◌-ℤ◌, nat_abs, ◌≤ℤ◌, Some, None, sym, ap, ◌∙◌, subst, arith, w32, SFits}
use lib.Signed.{pos-nat_abs, yes_non_neg}
use Rattle.std.proofs.lemmas.Int.{ints}
use Rattle.catalogue.specs.declared.types.Question.{Question}
use Rattle.catalogue.specs.declared.types.Range.{Range}
use Rattle.catalogue.specs.First.{first, First}
use Rattle.catalogue.specs.Ranges.{Proper, extent}
use Rattle.catalogue.specs.Operations.{Arith, ArithLaws}
use Rattle.catalogue.specs.Search.{passes, rises, moved, origin, reached, edge}
use Rattle.catalogue.proofs.Firsts.{first_is, found_zero}
use Rattle.catalogue.proofs.Rising.{stays}

pub apart : (l h : ℤ) → l ≤ℤ h → pos (nat_abs (h -ℤ l)) ≡ h -ℤ l
apart l h e = pos-nat_abs (h -ℤ l) (yes_non_neg (omega (arith, ints)))

pub other_end : (b : Bool) (r : Range) → Proper r → moved b (origin b r) (extent r) ≡ origin (not b) r
other_end true r h = let e = apart r.low r.high h in omega (arith, ints)
other_end false r h = let e = apart r.low r.high h in omega (arith, ints)

pub moved_none : (b : Bool) (v : ℤ) → moved b v 0 ≡ v
moved_none true v = omega (arith, ints)
moved_none false v = omega (arith, ints)

pub origin_fits : (b : Bool) (r : Range) → SFits w32 r.low → SFits w32 r.high → SFits w32 (origin b r)
origin_fits true r l h = l
origin_fits false r l h = h

module _ (a : Arith) (q : Question) (r : Range) where
  abbrev searched : ℤ → ℕ → ℕ → Type 0
  searched f n k = Some k ≡ first (λ i. passes a q (moved (rises q) f i)) n

  pub edge_some : (f : ℤ) (n : ℕ) (b : Bool) (v : ℤ) (k : ℕ) → f ≡ origin (rises q) r → n ≡ extent r → b ≡ rises q → v ≡ moved b f k → searched f n k → Some v ≡ edge a q r
  unfolding edge
  edge_some f n b v k ef en eb ev h =
      ap Some (ev ∙ ap (λ c. moved c f k) eb) ∙ ap (reached (rises q) f) h
      ∙ ap (λ m. reached (rises q) f (first (λ i. passes a q (moved (rises q) f i)) m)) en
      ∙ ap (λ g. reached (rises q) g (first (λ i. passes a q (moved (rises q) g i)) (extent r))) ef

  pub edge_none : (f : ℤ) (n : ℕ) → f ≡ origin (rises q) r → n ≡ extent r → None ≡ first (λ i. passes a q (moved (rises q) f i)) n → None ≡ edge a q r
  unfolding edge
  edge_none f n ef en h =
      ap (reached (rises q) f) h
      ∙ ap (λ m. reached (rises q) f (first (λ i. passes a q (moved (rises q) f i)) m)) en
      ∙ ap (λ g. reached (rises q) g (first (λ i. passes a q (moved (rises q) g i)) (extent r))) ef

  -- an end that passes is the edge
  pub edge_at_once : ArithLaws a → SFits w32 r.low → SFits w32 r.high → (v : ℤ) → v ≡ origin (rises q) r → true ≡ passes a q v → Some v ≡ edge a q r
  unfolding edge
  edge_at_once laws l h v e t =
      let f = origin (rises q) r in
      ap Some (e ∙ sym (moved_none (rises q) f))
      ∙ ap (reached (rises q) f) (found_zero (λ i. passes a q (moved (rises q) f i)) (extent r) (stays a laws q f (extent r)) (omega (arith, ints)) (t ∙ ap (passes a q) (e ∙ sym (moved_none (rises q) f))))

  -- what a found distance is at most
  pub found_within : ArithLaws a → (f : ℤ) (n k : ℕ) → n < 2 ^ 32 → searched f n k → k ≤ n
  found_within laws f n k top h = (subst (First (λ i. passes a q (moved (rises q) f i)) n) (sym h) (first_is _ n (stays a laws q f n) top)).0
