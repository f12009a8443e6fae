-- What it means that the catalogue agrees with a published case.
pub mod Vectors
