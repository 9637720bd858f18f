-- What private contracts and proofs alone speak of.
pub mod Fronts
pub mod Shared
