pub mod Plain
pub mod Characters
pub mod Rows
