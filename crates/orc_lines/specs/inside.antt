pub mod Blocks
pub mod Numbered
pub mod Places
pub mod Words
