pub mod Loops
mod Fits
pub mod Mutual
