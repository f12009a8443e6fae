-- The loop of `distance` keeps this: what lies before `low` fails, and `high` passes.
use Rattle.std.proofs.Common.{◌≡◌, ℕ, ◌-◌, ◌<◌, ◌≤◌, Bool, true, false}
use Rattle.catalogue.specs.Search.{passes, moved, rises}
use Rattle.catalogue.proofs.types.Question.distance.Given as goal

abbrev pub invariant-loop-low : goal.invariant-loop-low
invariant-loop-low g l =
    let p : ℕ → Bool = λ k. passes (g.A.Arithmetic.arith l.arithmetic) l.self (moved (rises l.self) l.from k) in
    ((j : ℕ) → j < l.low → p j ≡ false) × (true ≡ p l.high) × (l.low ≤ l.high) × (l.high ≤ l.n)

abbrev pub decreases-loop-low : goal.decreases-loop-low
decreases-loop-low g l = l.high - l.low
