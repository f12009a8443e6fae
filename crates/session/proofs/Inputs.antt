-- An input is known to be too long by its first 65,537 bytes, so what is written for them is written for all of it.
use Rattle.std.proofs.Common.{◌≡◌, ℕ, ◌<◌, Bool, true, false, List, [], ◌++◌, length, take, Option, None, Some, ltb, ap, refl, sym, subst, ◌∙◌, arith}
use Rattle.std.proofs.lemmas.Bool.{cond-true, lt-ltb, ltb-true, ltb-false}
use Rattle.std.proofs.lemmas.List.{length-take-le, take_all}
use Rattle.std.specs.Option.{option_map, IfSome}
use Rattle.std.specs.Io.KnownBytes.{Appends}
use Rattle.answers.specs.Texts.{line_of, refused}
use Rattle.session.specs.Sessions.{written_for}

-- an input that is too long
too_long : (bs : List ℕ) → 65536 < length bs → written_for bs ≡ line_of (refused 10)
too_long bs h = cond-true (ltb 65536 (length bs)) (line_of (refused 10)) _ (lt-ltb 65536 (length bs) h)

written_for-take_by : (bs : List ℕ) (t : Bool) → ltb 65536 (length bs) ≡ t → written_for (take 65537 bs) ≡ written_for bs
written_for-take_by bs true e =
    let long : 65536 < length bs = ltb-true 65536 (length bs) e in
    too_long (take 65537 bs) (omega (arith, length-take-le 65537 bs (omega arith))) ∙ sym (too_long bs long)
written_for-take_by bs false e = ap written_for (take_all 65537 bs (omega (arith, ltb-false 65536 (length bs) e)))

-- what a reader of known bytes is answered, once they are read up to the limit and the answers are written
pub served : (old new known left : Option (List ℕ)) (limit : ℕ) (start read written : List ℕ) → left ≡ known → limit ≡ 65537 → start ≡ [] → IfSome (option_map (take limit) left) (λ xs. read ≡ start ++ xs) → written ≡ written_for read → Appends old new written → IfSome known (λ bs. Appends old new (written_for bs))
served old new known left limit start read written el en es r e a = by known (subst (λ l. IfSome (option_map (take limit) l) (λ xs. read ≡ start ++ xs)) el r)
  where
    by : (k : Option (List ℕ)) → IfSome (option_map (take limit) k) (λ xs. read ≡ start ++ xs) → IfSome k (λ bs. Appends old new (written_for bs))
    by None r = tt
    by (Some bs) r =
        let all : read ≡ take 65537 bs = r ∙ ap (λ s. s ++ take limit bs) es ∙ ap (λ n. take n bs) en in
        subst (Appends old new) (e ∙ ap written_for all ∙ written_for-take_by bs (ltb 65536 (length bs)) refl) a
