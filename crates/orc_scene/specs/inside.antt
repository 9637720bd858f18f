-- What functions within the crate do.
pub mod Effects
pub mod Openings
