-- Sets of places: of each of the 64 places, whether it is in the set.
use Rattle.std.specs.Prelude.{◌≡◌, ℕ, zero, suc, ◌<◌, Bool, true, false, not, ◌&&◌, ◌||◌, List, [], ◌∷◌, Some, None, Option, ◌==◌, slice_index_or}
use Rattle.std.specs.List.{position_from}
use Rattle.sheet.specs.declared.places.Places.{Places}
use Rattle.sheet.specs.declared.TheConstants.{PLACES}

-- whether a place is in a set
abbrev pub has : Places → ℕ → Bool
has s n = slice_index_or s n false

-- what a test says of so many places, from one of them on
unfoldable pub tests : ℕ → ℕ → (ℕ → Bool) → List Bool
tests zero n p = []
tests (suc k) n p = p n ∷ tests k (suc n) p

-- the places that pass a test
unfoldable pub places_where : (ℕ → Bool) → Places
places_where p = tests PLACES 0 p

unfoldable pub none : Places
none = places_where (λ k. false)

-- a set with one place more
unfoldable pub with_place : ℕ → Places → Places
with_place n s = places_where (λ k. has s k || k == n)

-- a set without a place
unfoldable pub without : ℕ → Places → Places
without n s = places_where (λ k. has s k && not (k == n))

-- the places of two sets
unfoldable pub union : Places → Places → Places
union s u = places_where (λ k. has s k || has u k)

abbrev pub is_none : Places → Bool
is_none [] = true
is_none (b ∷ s) = not b && is_none s

-- the lowest place of a set, if it has one
unfoldable pub lowest : Places → Option ℕ
lowest s = position_from (λ b. b) 0 s

-- the lowest place of a set, in words
abbrev pub Lowest : Places → Option ℕ → Type 0
Lowest s None = (n : ℕ) → has s n ≡ false
Lowest s (Some n) = (n < PLACES) × (has s n ≡ true) × ((k : ℕ) → k < n → has s k ≡ false)
