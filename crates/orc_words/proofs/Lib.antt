pub mod Refusals
pub mod Forms
pub mod Found
mod Counting
mod Meeting
mod Numbered
