-- Worked examples, small enough to be checked by hand, of the definitions that the catalogues and the sheet are proved against.
pub mod Worked
