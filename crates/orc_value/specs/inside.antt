-- What private contracts and proofs alone speak of.
pub mod Sets
pub mod Scaled
