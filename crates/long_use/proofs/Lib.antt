-- What a sheet reads back is carried out on another; a settle keeps limits and lines; what a comparison tells.
pub mod Copying
pub mod Settling
pub mod Comparing
