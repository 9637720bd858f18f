pub mod Validity
pub mod Found
pub mod Answers
pub mod Acceptance
pub mod Laws
pub mod TypedRows
pub mod inside
