-- Lemmas for the proofs of functions: too long an input is known by its first bytes (Inputs), and the loop over a script (Replies).
pub mod Inputs
mod Replies
