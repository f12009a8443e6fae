-- Ranges within ranges, and what two of them have in common.
use Rattle.std.proofs.Common.{◌≡◌, ◌≢◌, true, false, ◌⊎◌, inl, inr, sym, subst, ⊎_elim, arith}
use lib.Signed.{lt_z}
use Rattle.std.specs.Int.{int_max, int_min}
use Rattle.std.proofs.lemmas.Int.{ints, clamps}
use Rattle.std.proofs.lemmas.Bool.{cases_Bool, or_parts, both_ways}
use Rattle.catalogue.specs.declared.types.Range.{Range}
use Rattle.catalogue.specs.Ranges.{Proper, Within, empty, meet, smaller}
use Rattle.catalogue.proofs.Laws.{range_same}

pub within_self : (a : Range) → Within a a
within_self a = (omega (arith, ints), omega (arith, ints))

pub within_then : (a b c : Range) → Within a b → Within b c → Within a c
within_then a b c h k = (omega (arith, ints), omega (arith, ints))

pub within_meet : (s a b : Range) → Within s a → Within s b → Within s (meet a b)
within_meet s a b h k = (omega (arith, ints, clamps), omega (arith, ints, clamps))

pub meet_left : (a b : Range) → Within (meet a b) a
meet_left a b = (omega (arith, ints, clamps), omega (arith, ints, clamps))

pub meet_right : (a b : Range) → Within (meet a b) b
meet_right a b = (omega (arith, ints, clamps), omega (arith, ints, clamps))

pub some_left : (s a b : Range) → Proper s → Within s a → Within s b → empty (meet a b) ≡ false
some_left s a b p h k = let w = within_meet s a b h k in grind (arith, ints)

pub proper_from : (a : Range) → empty a ≡ false → Proper a
proper_from a h = grind (arith, ints)

pub empty_from : (a : Range) → empty a ≡ true → Proper a → ⊥
empty_from a h p = grind (arith, ints)

-- a cut that makes a range no smaller takes nothing from it
pub covers : (a b : Range) → smaller (meet a b) a ≡ false → Within a b
covers a b h =
    let low : lt_z a.low (int_max a.low b.low) ≡ false = (or_parts (lt_z a.low (int_max a.low b.low)) (lt_z (int_min a.high b.high) a.high) h).0 in
    let high : lt_z (int_min a.high b.high) a.high ≡ false = (or_parts (lt_z a.low (int_max a.low b.low)) (lt_z (int_min a.high b.high) a.high) h).1 in
    (grind (arith, ints), grind (arith, ints))

pub meet_comm : (a b : Range) → meet a b ≡ meet b a
meet_comm a b = range_same (meet a b) (meet b a) (within_meet (meet a b) b a (meet_right a b) (meet_left a b)) (within_meet (meet b a) a b (meet_right b a) (meet_left b a))

pub meet_whole : (a b : Range) → smaller (meet a b) a ≡ false → meet a b ≡ a
meet_whole a b h = range_same (meet a b) a (meet_left a b) (within_meet a a b (within_self a) (covers a b h))

-- a range that is smaller is another one
pub smaller_differs : (a b : Range) → smaller b a ≡ true → b ≢ a
smaller_differs a b h e = both_ways (smaller b a) (subst (λ c. smaller c a ≡ false) (sym e) (itself a)) h
  where
    itself : (a : Range) → smaller a a ≡ false
    itself a = grind (arith, ints)

-- a range within another is that one or differs from it
pub same_or_not : (a b : Range) → Within b a → (b ≡ a) ⊎ (b ≢ a)
same_or_not a b w = ⊎_elim
    (λ e. inr (smaller_differs a b e))
    (λ e. inl (range_same b a w (back a b e)))
    (cases_Bool (smaller b a))
  where
    back : (a b : Range) → smaller b a ≡ false → Within a b
    back a b h =
        let low = (or_parts (lt_z a.low b.low) (lt_z b.high a.high) h).0 in
        let high = (or_parts (lt_z a.low b.low) (lt_z b.high a.high) h).1 in
        (grind (arith, ints), grind (arith, ints))
