-- What a sheet shows after any list of calls. Read from the top: Shown is the answer, Histories which calls are declined (the lists of
-- calls are the sheet's), Promise what holds after each, and Compared what a comparison of two sheets answers.
pub mod Shown
pub mod Histories
pub mod Promise
pub mod Compared
