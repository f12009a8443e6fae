-- How a text is taken apart, as definitions over lists of bytes. Read Words first (pieces of a text and its
-- words), then Lines (the lines of a script), then Numbers (which words are read as numbers, and how a pattern is written).
pub mod Words
pub mod Lines
pub mod Numbers
