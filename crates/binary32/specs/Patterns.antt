-- Patterns: the three fields of 32 bits, the rank that they stand for, and the pattern by which a rank is written.
use Rattle.std.specs.Prelude.{ℕ, suc, ◌+◌, ◌*◌, ◌/◌, ◌%◌, ◌^◌, min, cond, ℤ, pos, negsuc, Some, None, Option, ◌==◌}
use Rattle.binary32.specs.Units.{largest, with_sign}

-- bit 31, bits 30 to 23, and bits 22 to 0: the sign, the biased exponent and the trailing significand of IEEE 754-2019, 3.4
abbrev pub sign_bit : ℕ → ℕ
sign_bit p = p / 2 ^ 31 % 2

abbrev pub exponent_field : ℕ → ℕ
exponent_field p = p / 2 ^ 23 % 2 ^ 8

abbrev pub fraction : ℕ → ℕ
fraction p = p % 2 ^ 23

-- the exponent field and the fraction as one number, negated where the sign bit is 1
abbrev pub rank_of : ℕ → ℤ
rank_of p = with_sign (sign_bit p == 1) (exponent_field p * 2 ^ 23 + fraction p)

-- infinities and NaNs, with exponent field 255, are no readings
abbrev pub read : ℕ → Option ℤ
read p = cond (exponent_field p == 255) None (Some (rank_of p))

-- rank 0 is written 00000000, and a rank that is no reading as the reading nearest to it
abbrev pub write : ℤ → ℕ
write (pos m) = min m largest
write (negsuc m) = 2 ^ 31 + min (suc m) largest
