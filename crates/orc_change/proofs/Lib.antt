pub mod Towards
pub mod Exact
pub mod Walked
