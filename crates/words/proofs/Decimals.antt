-- A number is read from just the word that is written of it in decimal.
use Rattle.std.proofs.Common.{◌≡◌, ℕ, ◌+◌, ◌*◌, ◌^◌, ◌<◌, ◌≤◌, true, ◌&&◌, ltb, List, [], ◌∷◌, length, get_or, Some, decimal, Option, sym, refl, ap, ◌∙◌, ⊎_elim, arith}
use Rattle.std.proofs.lemmas.Bool.{cond-true, cond-false, lt-ltb, ltb-true, cases_Bool, and_parts, and_from, cases_lt}
use Rattle.std.proofs.lemmas.Bool.Decides.{nat_tests}
use Rattle.std.proofs.lemmas.Str.Parse.{IsNumeralModel, numerals_by_value, tells_digits, digits_value_short}
use Rattle.std.proofs.lemmas.Fmt.{decimal-digits_value, digits_value-decimal, digits_decimal, decimal_nonempty, decimal_digit, first_decimal, length-decimal-le}
use Rattle.std.proofs.lemmas.Option.{none-some}
use Rattle.std.specs.Str.Parse.{AllDigits, digits_value, digits_value_after}
use Rattle.std.specs.Char.{digit_value}
use Rattle.words.proofs.Inverses.{inverts_from}
use Rattle.words.specs.Numbers.{worth, numeral, led, number_of, Inverts}

own : IsNumeralModel (AllDigits 10) (digits_value 10)
own = numerals_by_value (AllDigits 10) tells_digits

worth_digit : (b : ℕ) → worth b < 10 → digit_value b ≡ worth b
worth_digit b h = grind (arith, nat_tests)

digit_worth : (b : ℕ) → digit_value b < 10 → worth b ≡ digit_value b
digit_worth b h = grind (arith, nat_tests)

-- a numeral that is read consists of digits
numeral_digits : (n m : ℕ) (bs : List ℕ) → numeral 10 n bs ≡ Some m → AllDigits 10 bs × (m ≡ digits_value_after 10 n bs)
numeral_digits n m [] e = (tt, cc)
numeral_digits n m (b ∷ bs) e =
    ⊎_elim
    (λ t.
    let h = ltb-true (worth b) 10 t in
    let p = numeral_digits (n * 10 + worth b) m bs (sym (cond-true _ _ _ t) ∙ e) in
    let w = worth_digit b h in
    let small : digit_value b < 10 = omega arith in
    ((small, p.0), rw w p.1))
    (λ f. absurd (none-some m (sym (cond-false _ _ _ f) ∙ e)))
    (cases_Bool (ltb (worth b) 10))

-- digits are read as the number that they write
digits_numeral : (n : ℕ) (bs : List ℕ) → AllDigits 10 bs → numeral 10 n bs ≡ Some (digits_value_after 10 n bs)
digits_numeral n [] d = refl
digits_numeral n (b ∷ bs) d =
    let w = digit_worth b d.0 in
    let h : worth b < 10 = omega (arith, d.0) in
    cond-true _ _ _ (lt-ltb _ _ h) ∙ rw w (digits_numeral (n * 10 + digit_value b) bs d.1)

led_parts : (w : List ℕ) → led w ≡ true → (0 < length w) × (get_or w 0 0 ≡ 48 → length w ≡ 1)
led_parts [] e = absurd (let z : ◌≡◌ {A = ℕ} 0 1 = cc in omega arith)
led_parts (b ∷ []) e = (omega arith, λ _. refl)
led_parts (b ∷ c ∷ bs) e = (omega arith, λ z. absurd (grind (arith, nat_tests)))

led_from : (w : List ℕ) → 0 < length w → (get_or w 0 0 ≡ 48 → length w ≡ 1) → led w ≡ true
led_from [] h e = absurd (omega arith)
led_from (b ∷ []) h e = refl
led_from (b ∷ c ∷ bs) h e =
    let n : b ≡ 48 → ⊥ = λ z. absurd (omega (arith, e z)) in grind (arith, nat_tests)

pub number_writes : (w : List ℕ) (n : ℕ) → number_of w ≡ Some n → (n < 100000) × (decimal n ≡ w)
number_writes w n e =
    ⊎_elim
    (λ t.
    let p = and_parts (led w) (ltb (length w) 6) t in
    let l = led_parts w p.0 in
    let s = ltb-true (length w) 6 p.1 in
    let d = numeral_digits 0 n w (sym (cond-true _ _ _ t) ∙ e) in
    let short : length w ≤ 5 = omega arith in
    let v = digits_value_short own w 5 d.0 short in
    let small : digits_value 10 w < 2 ^ 64 = omega arith in
    (omega (arith, d.1), rw d.1 (decimal-digits_value own w d.0 l.0 l.1 small)))
    (λ f. absurd (none-some n (sym (cond-false _ _ _ f) ∙ e)))
    (cases_Bool (led w && ltb (length w) 6))

decimal_led : (n : ℕ) → n < 2 ^ 64 → get_or (decimal n) 0 0 ≡ 48 → length (decimal n) ≡ 1
decimal_led n h e =
    ⊎_elim (λ t. ap length (decimal_digit n t)) (λ f. absurd (omega (arith, first_decimal n (omega arith) h))) (cases_lt n 10)

pub writes_number : (w : List ℕ) (n : ℕ) → n < 100000 → decimal n ≡ w → number_of w ≡ Some n
writes_number w n h e =
    let big : n < 2 ^ 64 = omega arith in
    let l = led_from (decimal n) (decimal_nonempty n big) (decimal_led n big) in
    let k = length-decimal-le 5 n (omega arith) (omega arith) big in
    let t = and_from (led (decimal n)) (ltb (length (decimal n)) 6) l (lt-ltb _ _ (omega arith)) in
    let d = digits_numeral 0 (decimal n) (digits_decimal own n big) in
    let v = digits_value-decimal own n big in
    let r : number_of (decimal n) ≡ Some n = cond-true _ _ _ t ∙ d ∙ ap Some v in
    rw e at r

pub number_law : (w : List ℕ) (r : Option ℕ) → r ≡ number_of w → Inverts decimal 100000 w r
number_law w r e = rw e (inverts_from decimal 100000 w (number_of w) (number_writes w) (writes_number w))
