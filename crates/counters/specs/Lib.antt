-- Counters. Stopping says what operations that stop at an end give, over the end; Counters says how a counter's patterns are read.
-- Stops has lemmas only, which nobody has to read in order to believe: the impls of the traits cite them for their laws, and an impl can
-- cite only specs/.
pub mod Stopping
pub mod Counters
pub mod Stops
