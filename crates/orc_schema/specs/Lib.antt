pub mod Drafts
pub mod Links
pub mod Schemas
pub mod Laws
pub mod inside
