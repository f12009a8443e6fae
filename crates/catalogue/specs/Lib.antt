-- The catalogue interface. Read from the top: what a reader must believe stands in Refusals, Numbers, Modes, Ranges, Operations, Narrowing and Meanings;
-- First, Search and Partners compute answers, so that examples can be worked out, and are proved to agree with the words;
-- Whole says when a narrowing needs no search; Given turns the code's three ranges into a Triple.
pub mod Refusals
pub mod Numbers
pub mod Modes
pub mod Ranges
pub mod Operations
pub mod Narrowing
pub mod First
pub mod Search
pub mod Whole
pub mod Partners
pub mod Meanings
pub mod Given
