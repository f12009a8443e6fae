-- The text of an answer, and the line that it makes.
use Rattle.std.specs.Prelude.{ℕ, Bool, true, false, List, ◌++◌, Some, None, codes, decimal, Option}
use Rattle.catalogue.specs.Refusals.{refusal_number}
use Rattle.words.specs.Numbers.{written}
use Rattle.answers.specs.declared.Answer.{Answer}
use Rattle.answers.specs.declared.Answer.TheVariants.{Done, Declined, Stepped, Shown, Partner}
use Rattle.sheet.specs.Calls.{outcome_number}
use Rattle.sheet.specs.Outcomes.{outcome_text}

-- whether the sheet is settled
abbrev pub state_text : Bool → List ℕ
state_text true = codes "settled"
state_text false = codes "open"

-- an answer by its values: a refusal and an outcome are numbers
pub data Reply : Type 0 where
  ok : Reply
  refused : ℕ → Reply
  stepped : ℕ → ℕ → Reply
  shown : ℕ → ℕ → Bool → Reply
  paired : Option ℕ → Reply

abbrev pub reply_of : Answer → Reply
reply_of Done = ok
reply_of (Declined refusal) = refused (refusal_number refusal)
reply_of (Stepped outcome steps) = stepped (outcome_number outcome) steps
reply_of (Shown s) = shown s.low s.high s.settled
reply_of (Partner pattern) = paired pattern

abbrev pub text_of : Reply → List ℕ
text_of ok = codes "ok"
text_of (refused number) = codes "no " ++ decimal number
text_of (stepped outcome steps) = outcome_text outcome ++ (codes " " ++ decimal steps)
text_of (shown low high settled) = written low ++ (codes " " ++ (written high ++ (codes " " ++ state_text settled)))
text_of (paired None) = codes "none"
text_of (paired (Some pattern)) = written pattern

abbrev pub line_of : Reply → List ℕ
line_of r = text_of r ++ codes "\n"
