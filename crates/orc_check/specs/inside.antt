-- What private contracts and proofs alone speak of.
pub mod Lent
pub mod Lists
pub mod Named
pub mod Lines
pub mod Sharing
pub mod Runs
