-- What private contracts and proofs alone speak of.
pub mod Inside
pub mod Looked
pub mod Led
pub mod Changed
