-- Units: how many units of 2^-149 a magnitude and a rank stand for (IEEE 754-2019, 3.4, in whole numbers).
use Rattle.std.specs.Prelude.{ℕ, suc, ◌+◌, ◌-◌, ◌*◌, ◌/◌, ◌%◌, ◌^◌, Bool, true, false, cond, ℤ, pos, negsuc, neg_ℤ, ◌≤ℤ◌, ◌==◌}

-- by exponent field and fraction: a subnormal number, with exponent field 0, has its fraction as units;
-- any other has a leading bit too, and doubles with each step of the exponent field
abbrev pub in_units : ℕ → ℕ → ℕ
in_units e f = cond (e == 0) f ((2 ^ 23 + f) * 2 ^ (e - 1))

-- a magnitude is an exponent field and a fraction of 23 bits, read as one number
abbrev pub exponent_of : ℕ → ℕ
exponent_of m = m / 2 ^ 23

abbrev pub fraction_of : ℕ → ℕ
fraction_of m = m % 2 ^ 23

-- the units of a magnitude
unfoldable pub units : ℕ → ℕ
units m = in_units (exponent_of m) (fraction_of m)

-- the largest reading's magnitude, and the first past the readings: exponent field 255, fraction 0
abbrev pub largest : ℕ
largest = 2139095039

abbrev pub beyond : ℕ
beyond = 2139095040

-- a magnitude with its sign
abbrev pub with_sign : Bool → ℕ → ℤ
with_sign true n = neg_ℤ (pos n)
with_sign false n = pos n

-- the units of a rank, which is a magnitude with its sign
abbrev pub value : ℤ → ℤ
value (pos m) = pos (units m)
value (negsuc m) = neg_ℤ (pos (units (suc m)))

-- a rank that is a reading
abbrev pub Reading : ℤ → Type 0
Reading r = (neg_ℤ (pos largest) ≤ℤ r) × (r ≤ℤ pos largest)
