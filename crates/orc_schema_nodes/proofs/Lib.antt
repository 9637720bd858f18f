pub mod Ordered
mod Alike
mod Halving
