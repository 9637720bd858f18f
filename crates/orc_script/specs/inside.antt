pub mod Lawful
pub mod Places
