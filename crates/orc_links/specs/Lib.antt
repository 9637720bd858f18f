pub mod Networks
pub mod Logs
