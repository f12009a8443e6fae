-- How many digits a number has.
use Rattle.std.proofs.Common.{◌≡◌, ℕ, ◌+◌, ◌/◌, ◌^◌, ◌<◌, ◌≤◌, length, decimal, ap, ◌∙◌, length-append, arith}
use Rattle.std.proofs.lemmas.Fmt.{decimal_step, length-decimal-le}

-- a number of 32 bits has at most ten
pub ten_digits : (n : ℕ) → n < 2 ^ 32 → length (decimal n) ≤ 10
ten_digits n small = length-decimal-le 10 n (omega arith) (omega arith) (omega arith)

-- one more than the number without its last digit
pub one_more : (n : ℕ) → 10 ≤ n → n < 2 ^ 32 → length (decimal n) ≡ length (decimal (n / 10)) + 1
one_more n large small = ap length (decimal_step n large (omega arith)) ∙ length-append (decimal (n / 10)) _
