pub mod Numerals
pub mod Integers
pub mod Decimals
pub mod Canon
pub mod Ranges
pub mod Json
pub mod inside
