pub mod Benches
pub mod Holdings
pub mod Kept
