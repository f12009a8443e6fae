-- Lemmas shared by the proofs of functions, from the bottom up. Mode sets (Sets); what a search finds (Firsts, Rising, Asking, Edges);
-- narrowing, computed and in words (Cuts, Words, Kept) and its laws (Allowed, Laws); partners (Found); and any arithmetic as a catalogue (Ranked).
pub mod Sets
pub mod Firsts
pub mod Rising
pub mod Allowed
pub mod Asking
pub mod Edges
pub mod Cuts
pub mod Words
pub mod Kept
pub mod Laws
pub mod Found
pub mod Ranked
