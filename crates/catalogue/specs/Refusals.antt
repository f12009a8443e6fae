-- The refusals and their numbers, and what an answer is when refusals go by number.
use Rattle.std.specs.Prelude.{ℕ, Ok, Err, Result}
use Rattle.catalogue.specs.declared.types.Refusal.{Refusal}
use Rattle.catalogue.specs.declared.types.Refusal.TheVariants.{NoSuchRegister, NotAReading, LowAboveHigh, NoSuchKind, NoSuchModes, PlaceTaken, NoLineThere, BudgetOutOfRange, SheetVoid, Unreadable}

-- the number by which users know a refusal
abbrev pub refusal_number : Refusal → ℕ
refusal_number NoSuchRegister = 1
refusal_number NotAReading = 2
refusal_number LowAboveHigh = 3
refusal_number NoSuchKind = 4
refusal_number NoSuchModes = 5
refusal_number PlaceTaken = 6
refusal_number NoLineThere = 7
refusal_number BudgetOutOfRange = 8
refusal_number SheetVoid = 9
refusal_number Unreadable = 10

-- an answer with its refusal as a number
abbrev pub numbered : {A : Type 0} → Result A Refusal → Result A ℕ
numbered (Ok x) = Ok x
numbered (Err e) = Err (refusal_number e)
