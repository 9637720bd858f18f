pub mod Modules
pub mod Schemas
pub mod Declarations
pub mod Answers
pub mod Bundles
pub mod inside
