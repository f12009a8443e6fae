-- Which command a script's line stands for. Read Commands for the way from a line to its command, with `words`,
-- `number_of` and `pattern_of` of the words at hand, and Lines for the way back, which says the same without a reader.
pub mod Commands
pub mod Lines
