-- How a text is taken apart, from the bottom up: parts and lines (Cuts, Laws), digits (Numerals), and that readers invert writers
-- (Inverses, Decimals, Patterns).
mod Cuts
pub mod Laws
mod Numerals
mod Inverses
pub mod Decimals
pub mod Patterns
