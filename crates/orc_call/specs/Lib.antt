pub mod Fields
pub mod Encoding
pub mod Puts
pub mod Faults
pub mod Answers
pub mod inside
