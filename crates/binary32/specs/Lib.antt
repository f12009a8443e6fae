-- The binary32 catalogue, for a reader who has IEEE 754-2019 at hand. Read Units and Patterns first: what a pattern stands for, and its rank.
-- Then Rounding: the four roundings of the standard, said with readings. Then Binary32: what sums, differences and peaks give, on ranks;
-- its `rounded m e` is the only rank r with `Rounds m e r` (Roundings in Theory). Theory has what is proved of all of these.
-- Computed gives the same roundings in closed form, so that examples can be worked out, and Locations is how the code gets there:
-- where an exact sum lies among the ranks.
-- The rest are lemmas, from Floors up to Theorems: nobody has to read them in order to believe. They stand here and not in
-- proofs/ because the impls of the traits cite them for their laws, and an impl can cite only specs/.
pub mod Units
pub mod Patterns
pub mod Rounding
pub mod Locations
pub mod Computed
pub mod Binary32
pub mod Theory
pub mod Floors
pub mod Located
pub mod Growing
pub mod StandardLemmas
pub mod Between
pub mod Signs
pub mod Fields
pub mod Theorems
