pub mod Courses
mod Inside
mod KeptLemmas
pub mod Moments
mod Puts
mod Synced
pub mod Torn
