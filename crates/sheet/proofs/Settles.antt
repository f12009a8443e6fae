-- Steps, one after another: what each turn of a settle's loop adds, and what holds of the steps in all.
use Rattle.std.proofs.Common.{◌≡◌, ℕ, suc, ◌+◌, ◌-◌, ◌<◌, false, sym, ap, ◌∙◌, arith}
use Rattle.std.proofs.lemmas.Bool.{cond-false}
use Rattle.catalogue.specs.Meanings.{Meaning}
use Rattle.sheet.specs.declared.table.Event.TheVariants.{Step}
use Rattle.sheet.specs.declared.table.Table.{Table}
use Rattle.sheet.specs.Rules.{Settling, after_steps, settling, reaction, at_rest}

abbrev so_far : Table → ℕ → Settling
so_far t n = record { table = t; steps = n }

module _ (m : Meaning) where
  abbrev pub next : Table → Table
  next t = reaction m t.state Step t

  settled_on : (b k : ℕ) (t : Table) → k < b → at_rest t.state ≡ false → settling m (b - k) t ≡ after_steps 1 (settling m (b - (k + 1)) (next t))
  settled_on b k t lt h =
      let e : b - k ≡ suc (b - (k + 1)) = omega arith in
      ap (λ n. settling m n t) e ∙ cond-false (at_rest t.state) (so_far t 0) (after_steps 1 (settling m (b - (k + 1)) (next t))) h

  -- one turn of the loop, from the table t to u, after k steps of the whole, which is a
  pub settled_turn : (b k : ℕ) (t u : Table) (a : Settling) → a ≡ after_steps k (settling m (b - k) t) → k < b → at_rest t.state ≡ false → u ≡ next t → a ≡ after_steps (k + 1) (settling m (b - (k + 1)) u)
  settled_turn b k t u a e lt h n =
      e ∙ ap (after_steps k) (settled_on b k t lt h)
      ∙ ap (so_far _) (omega arith) ∙ ap (λ v. after_steps (k + 1) (settling m (b - (k + 1)) v)) (sym n)
