pub mod States
pub mod Changed
pub mod Linked
pub mod Noted
