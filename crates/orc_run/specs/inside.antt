-- What functions within the crate do.
pub mod Inputs
pub mod Scripts
pub mod Sums
