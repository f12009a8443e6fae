-- A reader inverts a writer if each undoes the other.
use Rattle.std.proofs.Common.{◌≡◌, ℕ, ◌<◌, List, Some, None, Option, refl}
use Rattle.std.proofs.lemmas.Option.{none-some}
use Rattle.words.specs.Numbers.{Inverts}

pub inverts_from : (write : ℕ → List ℕ) (limit : ℕ) (w : List ℕ) (o : Option ℕ) → ((n : ℕ) → o ≡ Some n → (n < limit) × (write n ≡ w)) → ((n : ℕ) → n < limit → write n ≡ w → o ≡ Some n) → Inverts write limit w o
inverts_from write limit w None to from = λ n h e. absurd (none-some n (from n h e))
inverts_from write limit w (Some n) to from = to n refl
