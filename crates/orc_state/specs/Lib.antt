pub mod Writes
pub mod States
pub mod Codes
pub mod Checks
pub mod Commits
pub mod Laws
pub mod inside
