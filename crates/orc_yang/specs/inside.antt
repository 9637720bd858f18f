-- What private contracts and proofs alone speak of.
pub mod Valuing
pub mod View
pub mod Wanting
