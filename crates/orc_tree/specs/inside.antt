pub mod Places
pub mod Puts
pub mod Removal
pub mod Lists
