pub mod Counts
pub mod Meanings
pub mod Pieces
pub mod Sources
pub mod Sinks
