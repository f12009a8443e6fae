-- A list with one item replaced: what holds of the new item, and of each other item as it was, holds at every place.
use Rattle.std.proofs.Common.{◌≡◌, ℕ, ◌<◌, ◌≢◌, List, length, get_or, set, sym, subst, ⊎_elim}
use Rattle.std.proofs.lemmas.List.{get_or-set_same, get_or-set_other}
use Rattle.std.proofs.lemmas.Bool.{cases_eq}

pub at_each : {A : Type 0} (xs : List A) (i : ℕ) (x d : A) → i < length xs → (P : ℕ → A → Type 0) → P i x → ((j : ℕ) → (j ≡ i → ⊥) → P j (get_or xs j d)) → (j : ℕ) → P j (get_or (set xs i x) j d)
at_each xs i x d lt P here off j = ⊎_elim
    (λ (e : j ≡ i). subst (λ k. P k (get_or (set xs i x) k d)) (sym e) (subst (P i) (sym (get_or-set_same xs i x d lt)) here))
    (λ (ne : j ≢ i). subst (P j) (sym (get_or-set_other xs i j x d ne)) (off j ne))
    (cases_eq j i)
