pub mod Torn
pub mod Course
pub mod Stops
pub mod History
