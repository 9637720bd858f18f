pub mod Steps
pub mod Keys
pub mod PlainTexts
pub mod Kept
