-- What the small clients do, in the terms of the sheet's calls.
pub mod Clients
