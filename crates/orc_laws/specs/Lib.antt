pub mod Histories
pub mod Making
pub mod Services
pub mod Entries
