-- What private contracts and proofs alone speak of.
pub mod Seen
