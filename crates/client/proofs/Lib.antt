-- A line that one place refuses (Entering).
pub mod Entering
