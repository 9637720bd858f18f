-- What functions within the crate do.
pub mod Rows
pub mod Shown
