-- The numbers by which a caller names a register or a place: what each names, or the refusal.
use Rattle.std.specs.Prelude.{◌≡◌, ℕ, Bool, true, false, not, Ok, Err, Result, nat_lt}
use Rattle.catalogue.specs.declared.types.Refusal.{Refusal}
use Rattle.catalogue.specs.declared.types.Refusal.TheVariants.{NoSuchRegister, NoLineThere}
use Rattle.sheet.specs.declared.TheConstants.{PLACES, REGISTERS}

-- a number that names no register
abbrev pub no_register : ℕ → Bool
no_register n = not (nat_lt n REGISTERS)

-- a number below REGISTERS names the register with this number, and no other number names one
abbrev pub NamesRegister : ℕ → Result ℕ Refusal → Type 0
NamesRegister n (Ok r) = (r ≡ n) × (no_register n ≡ false)
NamesRegister n (Err e) = (e ≡ NoSuchRegister) × (no_register n ≡ true)

-- a number that names no place
abbrev pub no_place : ℕ → Bool
no_place n = not (nat_lt n PLACES)

-- a number below PLACES names the place with this number, and no other number names one
abbrev pub NamesPlace : ℕ → Result ℕ Refusal → Type 0
NamesPlace n (Ok p) = (p ≡ n) × (no_place n ≡ false)
NamesPlace n (Err e) = (e ≡ NoLineThere) × (no_place n ≡ true)
