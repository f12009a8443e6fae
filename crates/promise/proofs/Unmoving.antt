-- That a line leaves ranges unchanged exactly if they lie within what it narrows them to.
use Rattle.std.proofs.Common.{◌≡◌, ℕ, Bool, true, false, eqb, Some, None, Option, sym, refl, ap, ◌∙◌, subst, inl, inr, ⊎_elim}
use Rattle.std.proofs.lemmas.Bool.{cases_Bool, eqb-true, eq-eqb, ne_eqb}
use Rattle.catalogue.specs.declared.types.Range.{Range}
use Rattle.catalogue.specs.declared.types.Triple.{Triple}
use Rattle.catalogue.specs.Meanings.{Meaning, Laws}
use Rattle.catalogue.specs.Ranges.{Within, Within3, WithinO, meet}
use Rattle.catalogue.proofs.Laws.{range_same}
use Rattle.sheet.specs.declared.lines.Line.{Line}
use Rattle.sheet.specs.Words.{Names, common_if, gets}
use Rattle.sheet.proofs.Meets.{meet_left, meet_right, within_meet, within_self, within_then}
use Rattle.sheet.proofs.Wordings.{Registers}
use Rattle.promise.specs.Promise.{Ranges, Unchanged, given_to}

pub within_some : (a : Triple) (b c : Option Triple) → WithinO (Some a) b → WithinO b c → WithinO (Some a) c
within_some a None c h k = absurd h
within_some a (Some b) None h k = absurd k
within_some a (Some b) (Some c) h k =
    (within_then a.x b.x c.x h.0 k.0, within_then a.y b.y c.y h.1 k.1, within_then a.z b.z c.z h.2 k.2)

-- ---- ranges that a line does not move: they lie within what it narrows them to
abbrev pub Stays : Meaning → Line → Triple → Type 0
Stays m l g = WithinO (Some g) (m.narrowed l.operation.kind l.operation.modes g)

abbrev pub Unmoved : Meaning → Ranges → Line → Type 0
Unmoved m σ l = Stays m l (given_to l σ)

pub unmoved_same : (m : Meaning) (σ τ : Ranges) (l : Line) → σ l.x ≡ τ l.x → σ l.y ≡ τ l.y → σ l.z ≡ τ l.z → Unmoved m σ l → Unmoved m τ l
unmoved_same m σ τ l ex ey ez h =
    let same : given_to l σ ≡ given_to l τ = cc (ex, ey, ez) in
    subst (Stays m l) same h

-- what a register gets from one result
meet_same : (a b : Range) → a ≡ b → meet a b ≡ b
meet_same a b e = range_same (meet a b) b (meet_right a b) (within_meet b a b (subst (Within b) (sym e) (within_self b)) (within_self b))

common_same : (σ : Ranges) (r q : ℕ) (a : Range) → a ≡ σ r → common_if (eqb r q) a (σ q) ≡ σ q
common_same σ r q a e = ⊎_elim
    (λ d. ap (λ b. common_if b a (σ q)) d ∙ meet_same a (σ q) (e ∙ ap σ (eqb-true r q d)))
    (λ d. ap (λ b. common_if b a (σ q)) d)
    (cases_Bool (eqb r q))

common_under : (b : Bool) (a c d : Range) → Within c d → Within (common_if b a c) d
common_under true a c d h = within_then (meet a c) c d (meet_right a c) h
common_under false a c d h = h

common_own : (r : ℕ) (a c : Range) → Within (common_if (eqb r r) a c) a
common_own r a c = subst (λ b. Within (common_if b a c) a) (sym (eq-eqb r r refl)) (meet_left a c)

-- what a register gets lies within its range, and within its own results; and what lies within all of them lies within that
pub gets_within : (l : Line) (s : Triple) (q : ℕ) (old : Range) → Within (gets l s q old) old
gets_within l s q old = common_under (eqb l.z q) s.z _ old (common_under (eqb l.y q) s.y _ old (common_under (eqb l.x q) s.x old old (within_self old)))

pub within_gets : (l : Line) (s : Triple) (q : ℕ) (old a : Range) → Within a old → (l.x ≡ q → Within a s.x) → (l.y ≡ q → Within a s.y) → (l.z ≡ q → Within a s.z) → Within a (gets l s q old)
within_gets l s q old a h x y z = into (eqb l.z q) s.z _ (λ e. z (eqb-true l.z q e)) (into (eqb l.y q) s.y _ (λ e. y (eqb-true l.y q e)) (into (eqb l.x q) s.x old (λ e. x (eqb-true l.x q e)) h))
  where
    into : (b : Bool) (r c : Range) → (b ≡ true → Within a r) → Within a c → Within a (common_if b r c)
    into true r c f g = within_meet a r c (f refl) g
    into false r c f g = g

module _ (l : Line) (s : Triple) (old : Range) where
  pub gets_x : Within (gets l s l.x old) s.x
  gets_x = common_under (eqb l.z l.x) s.z _ s.x (common_under (eqb l.y l.x) s.y _ s.x (common_own l.x s.x old))

  pub gets_y : Within (gets l s l.y old) s.y
  gets_y = common_under (eqb l.z l.y) s.z _ s.y (common_own l.y s.y _)

  pub gets_z : Within (gets l s l.z old) s.z
  gets_z = common_own l.z s.z _

-- a register that the line does not name keeps its range
pub gets_other : (l : Line) (s : Triple) (q : ℕ) (old : Range) → (Names l q → ⊥) → gets l s q old ≡ old
gets_other l s q old apart =
    ap (λ b. common_if b s.z (common_if (eqb l.y q) s.y (common_if (eqb l.x q) s.x old))) (ne_eqb l.z q (λ e. apart (inr (inr e))))
    ∙ ap (λ b. common_if b s.y (common_if (eqb l.x q) s.x old)) (ne_eqb l.y q (λ e. apart (inr (inl e))))
    ∙ ap (λ b. common_if b s.x old) (ne_eqb l.x q (λ e. apart (inl e)))

-- both ways
module _ (m : Meaning) (laws : Laws m) (σ : Ranges) (l : Line) where
  pub unchanged : Unmoved m σ l → Unchanged m l σ
  unchanged = by (m.narrowed l.operation.kind l.operation.modes (given_to l σ)) refl (laws.inside l.operation.kind l.operation.modes (given_to l σ))
    where
      by : (o : Option Triple) → m.narrowed l.operation.kind l.operation.modes (given_to l σ) ≡ o → WithinO o (Some (given_to l σ)) → WithinO (Some (given_to l σ)) o → Unchanged m l σ
      by None e i u = absurd u
      by (Some s) e i u = record {
        results = s;
        narrowed = e;
        same = λ q _.
            let ex = common_same σ l.x q s.x (range_same s.x (σ l.x) i.0 u.0) in
            let ey = common_same σ l.y q s.y (range_same s.y (σ l.y) i.1 u.1) in
            let ez = common_same σ l.z q s.z (range_same s.z (σ l.z) i.2 u.2) in
            ap (λ v. common_if (eqb l.z q) s.z (common_if (eqb l.y q) s.y v)) ex ∙ ap (common_if (eqb l.z q) s.z) ey ∙ ez;
      }

  pub unmoved : Registers l → Unchanged m l σ → Unmoved m σ l
  unmoved p u =
      let s = u.results in
      let x = gets_x l s (σ l.x) in
      let y = gets_y l s (σ l.y) in
      let z = gets_z l s (σ l.z) in
      let all : Within3 (given_to l σ) s = (subst (λ v. Within v s.x) (u.same l.x p.x) x, subst (λ v. Within v s.y) (u.same l.y p.y) y, subst (λ v. Within v s.z) (u.same l.z p.z) z) in
      subst (WithinO (Some (given_to l σ))) (sym u.narrowed) all
