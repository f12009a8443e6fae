-- A magnitude has one location, and what each rounding makes of it never falls as the magnitude grows.
use Rattle.std.specs.Prelude.{◌≡◌, ℕ, suc, ◌+◌, ◌-◌, ◌*◌, ◌/◌, ◌^◌, ◌<◌, ◌≤◌, min, ◌==◌, nat_lt, refl}
use Rattle.std.proofs.Common.{subst, ⊎_elim, arith, pow_pos}
use Rattle.std.proofs.lemmas.Bool.{cases_lt, eqb-true, eqb-false, ltb-true, ltb-false, cond_both}
use Rattle.binary32.specs.declared.types.Rest.{Rest}
use Rattle.binary32.specs.declared.types.Rest.TheVariants.{Exact, BelowMiddle, Middle, AboveMiddle}
use Rattle.binary32.specs.Units.{units, beyond}
use Rattle.binary32.specs.Locations.{Lies}
use Rattle.binary32.specs.Computed.{floor_of, rest_of, toward_zero, from_zero, to_nearest}
use Rattle.binary32.specs.Floors.{Floor, floor_is, floor_iff, floor_unique, units_suc}

pub step : (t : ℕ) → units t < units (suc t)
step t = omega (arith, units_suc t, pow_pos (t / 2 ^ 23 - 1))

pub lies_floor : (n t : ℕ) (r : Rest) → Lies n t r → Floor n t
lies_floor n t Exact c = record { le = omega arith; lt = omega (arith, step t) }
lies_floor n t BelowMiddle c = record { le = omega (arith, c.0); lt = omega (arith, c.1, step t) }
lies_floor n t Middle c = record { le = omega (arith, step t); lt = omega (arith, step t) }
lies_floor n t AboveMiddle c = record { le = omega (arith, c.0, step t); lt = c.1 }

pub rest_lies : (n : ℕ) → Lies n (floor_of n) (rest_of n)
unfolding rest_of
rest_lies n =
    let t = floor_of n in
    let f = floor_is n in
    cond_both (n == units t) Exact _ (λ r. Lies n t r) (λ e. eqb-true n (units t) e) (λ e.
    let ne = eqb-false n (units t) e in
    cond_both (nat_lt (2 * n) (units t + units (suc t))) BelowMiddle _ (λ r. Lies n t r) (λ l. (omega (arith, f.le, ne), ltb-true (2 * n) (units t + units (suc t)) l)) (λ l.
    let ge = ltb-false (2 * n) (units t + units (suc t)) l in
    cond_both (2 * n == units t + units (suc t)) Middle AboveMiddle (λ r. Lies n t r) (λ q. eqb-true (2 * n) (units t + units (suc t)) q) (λ q. (omega (arith, ge, eqb-false (2 * n) (units t + units (suc t)) q), f.lt))))

-- one rest fits
same_rest : (n t : ℕ) (r q : Rest) → Lies n t r → Lies n t q → r ≡ q
same_rest n t Exact Exact a b = refl
same_rest n t Exact BelowMiddle a b = absurd (omega (arith, a, b.0))
same_rest n t Exact Middle a b = absurd (omega (arith, a, b, step t))
same_rest n t Exact AboveMiddle a b = absurd (omega (arith, a, b.0, step t))
same_rest n t BelowMiddle Exact a b = absurd (omega (arith, b, a.0))
same_rest n t BelowMiddle BelowMiddle a b = refl
same_rest n t BelowMiddle Middle a b = absurd (omega (arith, a.1, b))
same_rest n t BelowMiddle AboveMiddle a b = absurd (omega (arith, a.1, b.0))
same_rest n t Middle Exact a b = absurd (omega (arith, a, b, step t))
same_rest n t Middle BelowMiddle a b = absurd (omega (arith, a, b.1))
same_rest n t Middle Middle a b = refl
same_rest n t Middle AboveMiddle a b = absurd (omega (arith, a, b.0))
same_rest n t AboveMiddle Exact a b = absurd (omega (arith, b, a.0, step t))
same_rest n t AboveMiddle BelowMiddle a b = absurd (omega (arith, b.1, a.0))
same_rest n t AboveMiddle Middle a b = absurd (omega (arith, b, a.0))
same_rest n t AboveMiddle AboveMiddle a b = refl

pub lies_rank : (n t : ℕ) (r : Rest) → Lies n t r → t ≡ floor_of n
lies_rank n t r c = floor_unique n t (floor_of n) (lies_floor n t r c) (floor_is n)

pub lies_rest : (n t : ℕ) (r : Rest) → Lies n t r → r ≡ rest_of n
lies_rest n t r c = same_rest n (floor_of n) r (rest_of n) (subst (λ (x : ℕ). Lies n x r) (lies_rank n t r c) c) (rest_lies n)

-- ---- order

abbrev order : Rest → ℕ
order Exact = 0
order BelowMiddle = 1
order Middle = 2
order AboveMiddle = 3

in_order : (a b t : ℕ) (r q : Rest) → a ≤ b → Lies a t r → Lies b t q → order r ≤ order q
in_order a b t Exact Exact h c d = omega arith
in_order a b t Exact BelowMiddle h c d = omega arith
in_order a b t Exact Middle h c d = omega arith
in_order a b t Exact AboveMiddle h c d = omega arith
in_order a b t BelowMiddle Exact h c d = absurd (omega (arith, c.0, c.1, d, step t))
in_order a b t BelowMiddle BelowMiddle h c d = omega arith
in_order a b t BelowMiddle Middle h c d = omega arith
in_order a b t BelowMiddle AboveMiddle h c d = omega arith
in_order a b t Middle Exact h c d = absurd (omega (arith, c, d, step t))
in_order a b t Middle BelowMiddle h c d = absurd (omega (arith, c, d.0, d.1, step t))
in_order a b t Middle Middle h c d = omega arith
in_order a b t Middle AboveMiddle h c d = omega arith
in_order a b t AboveMiddle Exact h c d = absurd (omega (arith, c.0, c.1, d, step t))
in_order a b t AboveMiddle BelowMiddle h c d = absurd (omega (arith, c.0, c.1, d.0, d.1, step t))
in_order a b t AboveMiddle Middle h c d = absurd (omega (arith, c.0, c.1, d, step t))
in_order a b t AboveMiddle AboveMiddle h c d = omega arith

away_order : (t : ℕ) (r q : Rest) → order r ≤ order q → from_zero t r ≤ from_zero t q
away_order t Exact Exact h = omega arith
away_order t Exact BelowMiddle h = omega arith
away_order t Exact Middle h = omega arith
away_order t Exact AboveMiddle h = omega arith
away_order t BelowMiddle Exact h = omega arith
away_order t BelowMiddle BelowMiddle h = omega arith
away_order t BelowMiddle Middle h = omega arith
away_order t BelowMiddle AboveMiddle h = omega arith
away_order t Middle Exact h = omega arith
away_order t Middle BelowMiddle h = omega arith
away_order t Middle Middle h = omega arith
away_order t Middle AboveMiddle h = omega arith
away_order t AboveMiddle Exact h = omega arith
away_order t AboveMiddle BelowMiddle h = omega arith
away_order t AboveMiddle Middle h = omega arith
away_order t AboveMiddle AboveMiddle h = omega arith

away_near : (t : ℕ) (r : Rest) → (min t beyond ≤ from_zero t r) × (from_zero t r ≤ min (t + 1) beyond)
away_near t Exact = (omega arith, omega arith)
away_near t BelowMiddle = (omega arith, omega arith)
away_near t Middle = (omega arith, omega arith)
away_near t AboveMiddle = (omega arith, omega arith)

nearer_order : (t : ℕ) (r q : Rest) → order r ≤ order q → to_nearest t r ≤ to_nearest t q
nearer_order t Exact Exact h = omega arith
nearer_order t Exact BelowMiddle h = omega arith
nearer_order t Exact Middle h = omega arith
nearer_order t Exact AboveMiddle h = omega arith
nearer_order t BelowMiddle Exact h = omega arith
nearer_order t BelowMiddle BelowMiddle h = omega arith
nearer_order t BelowMiddle Middle h = omega arith
nearer_order t BelowMiddle AboveMiddle h = omega arith
nearer_order t Middle Exact h = omega arith
nearer_order t Middle BelowMiddle h = omega arith
nearer_order t Middle Middle h = omega arith
nearer_order t Middle AboveMiddle h = omega arith
nearer_order t AboveMiddle Exact h = omega arith
nearer_order t AboveMiddle BelowMiddle h = omega arith
nearer_order t AboveMiddle Middle h = omega arith
nearer_order t AboveMiddle AboveMiddle h = omega arith

nearer_near : (t : ℕ) (r : Rest) → (min t beyond ≤ to_nearest t r) × (to_nearest t r ≤ min (t + 1) beyond)
nearer_near t Exact = (omega arith, omega arith)
nearer_near t BelowMiddle = (omega arith, omega arith)
nearer_near t Middle = (omega arith, omega arith)
nearer_near t AboveMiddle = (omega arith, omega arith)

module _ (a b : ℕ) (le : a ≤ b) (t s : ℕ) (r q : Rest) (c : Lies a t r) (d : Lies b s q) where
  ranks : t ≤ s
  ranks = floor_iff b s t (lies_floor b s q d) (omega (arith, (lies_floor a t r c).le))

  pub toward_mono : toward_zero t r ≤ toward_zero s q
  toward_mono = omega (arith, ranks)

  same : s ≤ t → Lies b t q
  same h = let e : s ≡ t = omega (arith, ranks) in subst (λ (x : ℕ). Lies b x q) e d

  pub away_mono : from_zero t r ≤ from_zero s q
  away_mono = ⊎_elim (λ (h : t < s). omega (arith, (away_near t r).1, (away_near s q).0))
      (λ (h : s ≤ t). let e : t ≡ s = omega (arith, ranks) in
      subst (λ (x : ℕ). from_zero t r ≤ from_zero x q) e (away_order t r q (in_order a b t r q le c (same h)))) (cases_lt t s)

  pub nearer_mono : to_nearest t r ≤ to_nearest s q
  nearer_mono = ⊎_elim (λ (h : t < s). omega (arith, (nearer_near t r).1, (nearer_near s q).0))
      (λ (h : s ≤ t). let e : t ≡ s = omega (arith, ranks) in
      subst (λ (x : ℕ). to_nearest t r ≤ to_nearest x q) e (nearer_order t r q (in_order a b t r q le c (same h)))) (cases_lt t s)
