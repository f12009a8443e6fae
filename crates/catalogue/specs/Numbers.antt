-- The numbers by which a caller names a kind or a set of modes: what each names, or the refusal.
use Rattle.std.specs.Prelude.{◌≡◌, ℕ, Bool, true, false, cond, ◌||◌, Some, None, Ok, Err, Option, Result, ◌==◌, nat_lt}
use Rattle.catalogue.specs.declared.types.Kind.{Kind}
use Rattle.catalogue.specs.declared.types.Kind.TheVariants.{Sum, Difference, Peak}
use Rattle.catalogue.specs.declared.types.Modes.{Modes}
use Rattle.catalogue.specs.declared.types.Refusal.{Refusal}
use Rattle.catalogue.specs.declared.types.Refusal.TheVariants.{NoSuchKind, NoSuchModes}

-- the number of a kind
abbrev pub kind_number : Kind → ℕ
kind_number Sum = 0
kind_number Difference = 1
kind_number Peak = 2

abbrev pub kind_of : ℕ → Option Kind
kind_of n = cond (n == 0) (Some Sum) (cond (n == 1) (Some Difference) (cond (n == 2) (Some Peak) None))

-- a number names the kind that has it, and no other number names one
abbrev pub NamesKind : ℕ → Result Kind Refusal → Type 0
NamesKind n (Ok k) = kind_of n ≡ Some k
NamesKind n (Err e) = (e ≡ NoSuchKind) × (kind_of n ≡ None)

-- a number that names no set of modes, or the set of none
abbrev pub no_modes : ℕ → Bool
no_modes n = n == 0 || nat_lt 15 n

-- a number from 1 to 15 names the set of modes with these bits, and no other number names one
abbrev pub NamesModes : ℕ → Result Modes Refusal → Type 0
NamesModes n (Ok s) = (s.bits ≡ n) × (no_modes n ≡ false)
NamesModes n (Err e) = (e ≡ NoSuchModes) × (no_modes n ≡ true)
