-- Read from the bottom up. Passing: what the check answers passes it. Unmoving: which ranges a line leaves unchanged. Sounds: the
-- invariant of every table. Keeping: the words of each call keep it, so Histories: it holds after every history. Setting, Alone: what a
-- step leaves unchanged, by the rules. Declining: a declined call. Promised: the promise and its consequences. Comparing: two sheets.
pub mod Passing
pub mod Unmoving
pub mod Sounds
pub mod Keeping
pub mod Histories
pub mod Setting
pub mod Alone
pub mod Declining
pub mod Promised
pub mod Comparing
pub mod Showing
