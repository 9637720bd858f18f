pub mod Clashing
pub mod Plans
