pub mod Differences
pub mod inside
