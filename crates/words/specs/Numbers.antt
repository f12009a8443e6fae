-- Numbers and patterns as words: which word is read as which, and the eight digits that write a pattern.
use Rattle.std.specs.Prelude.{◌≡◌, ℕ, ◌+◌, ◌-◌, ◌*◌, ◌/◌, ◌%◌, ◌<◌, Bool, true, false, cond, not, ◌&&◌, List, [], ◌∷◌, map, length, Some, None, Option, ◌==◌, ◌≢◌, nat_le, nat_lt}

-- what the digits 0 to 9 and the capitals A to F are worth; 16 for any other byte
abbrev pub worth : ℕ → ℕ
worth b = cond (nat_le 48 b && nat_lt b 58) (b - 48) (cond (nat_le 65 b && nat_lt b 71) (b - 55) 16)

-- the number that the digits of a base write behind those of n
abbrev pub numeral : ℕ → ℕ → List ℕ → Option ℕ
numeral base n [] = Some n
numeral base n (b ∷ bs) = cond (nat_lt (worth b) base) (numeral base (n * base + worth b) bs) None

-- a first digit, which is 0 only where it stands alone
abbrev pub led : List ℕ → Bool
led [] = false
led (b ∷ []) = true
led (b ∷ c ∷ bs) = not (b == 48)

-- one to five decimal digits without leading zeros
abbrev pub number_of : List ℕ → Option ℕ
number_of w = cond (led w && nat_lt (length w) 6) (numeral 10 0 w) None

-- eight hexadecimal digits, in capitals
abbrev pub pattern_of : List ℕ → Option ℕ
pattern_of w = cond (length w == 8) (numeral 16 0 w) None

-- the digit that is worth d, below 16
abbrev pub glyph_of : ℕ → ℕ
glyph_of d = cond (nat_lt d 10) (48 + d) (55 + d)

-- the eight hexadecimal digits of a pattern, the highest first
abbrev pub digits_of : ℕ → List ℕ
digits_of n =
    n / 0x1000_0000 % 16 ∷ n / 0x100_0000 % 16 ∷ n / 0x10_0000 % 16 ∷ n / 0x1_0000 % 16 ∷ n / 0x1000 % 16 ∷ n / 0x100 % 16
    ∷ n / 0x10 % 16 ∷ n % 16 ∷ []

-- a pattern as a word, in capitals
abbrev pub written : ℕ → List ℕ
written n = map glyph_of (digits_of n)

-- what a reader makes of a word is the number below the limit that is written so, and None where there is no such number
abbrev pub Inverts : (ℕ → List ℕ) → ℕ → List ℕ → Option ℕ → Type 0
Inverts write limit w None = (n : ℕ) → n < limit → write n ≢ w
Inverts write limit w (Some n) = (n < limit) × (write n ≡ w)
