-- Lemmas for the proof of the text of an answer: how long a number is (Lengths).
pub mod Lengths
