-- Lemmas shared by the proofs of functions: how the code finds where an exact value lies (Scaled, Apart), and the results of a mode set
-- (Spans). They stand on those of specs/, which the impls cite too.
pub mod Scaled
pub mod Apart
pub mod Spans
