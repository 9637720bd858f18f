-- What private contracts and proofs alone speak of.
pub mod Leaves
pub mod Beside
pub mod Known
pub mod Blocks
pub mod Shallow
