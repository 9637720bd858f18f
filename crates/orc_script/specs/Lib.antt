pub mod Places
pub mod Bodies
pub mod Operations
pub mod Scripts
pub mod Steps
pub mod inside
