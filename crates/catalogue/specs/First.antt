-- The first number that passes a test which, once passed, stays passed.
use Rattle.std.specs.Prelude.{◌≡◌, ℕ, zero, suc, ◌+◌, ◌-◌, ◌^◌, ◌<◌, ◌≤◌, Bool, true, false, cond, Some, None, Option, nat_le}

-- in words: the first number up to n that passes, if there is one
abbrev pub First : (ℕ → Bool) → ℕ → Option ℕ → Type 0
First p n None = (k : ℕ) → k ≤ n → p k ≡ false
First p n (Some k) = (k ≤ n) × (p k ≡ true) × ((j : ℕ) → j < k → p j ≡ false)

-- the test stays passed up to n
abbrev pub Stays : (ℕ → Bool) → ℕ → Type 0
Stays p n = (j k : ℕ) → j ≤ k → k ≤ n → p j ≡ true → p k ≡ true

-- by halving: the first from base on, if there is one below base + 2 ^ j - 1, else that number
unfoldable pub halved : (ℕ → Bool) → ℕ → ℕ → ℕ
halved p zero base = base
halved p (suc j) base = halved p j (cond (p (base + 2 ^ j - 1)) base (base + 2 ^ j))

-- a number, if it passes
abbrev pub picked : (ℕ → Bool) → ℕ → Option ℕ
picked p k = cond (p k) (Some k) None

-- the first number up to n, for n below 2 ^ 32
unfoldable pub first : (ℕ → Bool) → ℕ → Option ℕ
unfolding halved
first p n = picked p (halved (λ k. cond (nat_le n k) true (p k)) 32 0)
