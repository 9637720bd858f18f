pub mod Findings
pub mod Readings
pub mod Written
pub mod TypedJson
pub mod inside
pub mod Laws
