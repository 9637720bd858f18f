pub mod Faults
pub mod Singles
pub mod Templates
