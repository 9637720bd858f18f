pub mod Stages
pub mod Fronts
pub mod ReadFaults
pub mod Blocks
pub mod Steps
