-- What private contracts and proofs alone speak of.
pub mod Cuts
pub mod Meeting
pub mod Running
pub mod Behind
