pub mod Names
pub mod Schemas
pub mod Sound
pub mod inside
