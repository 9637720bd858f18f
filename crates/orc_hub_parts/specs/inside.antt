pub mod Named
pub mod Indexed
