-- What private contracts and proofs alone speak of.
pub mod Carried
pub mod Indexes
