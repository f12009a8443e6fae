-- What a script's commands are answered: read Texts from the top, with `refusal_number`, the numbers of the refusals,
-- `outcome_text`, the texts of outcomes, and `written`, the eight digits of a pattern, at hand.
pub mod Texts
