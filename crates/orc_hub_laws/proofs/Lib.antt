pub mod Rows
pub mod Going
pub mod Submitted
pub mod Admitted
pub mod Decided
pub mod Reported
pub mod Telling
pub mod Mending
pub mod Openings
pub mod Recovered
pub mod Nowhere
mod Ruled
mod Refusals
mod Naming
