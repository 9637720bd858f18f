pub mod Under
pub mod Turns
pub mod Named
