-- How a used and a new sheet compare.
pub mod Comparisons
