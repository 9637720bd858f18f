pub mod Bools
mod Last
mod Encoded
pub mod Plain
mod Fronts
pub mod Written
mod Parts
mod Runs
mod Feeds
mod Again
mod Stops
mod Behind
mod Refused
mod Standing
mod Modes
mod Names
pub mod Characters
mod Cuts
pub mod PathOf
pub mod Values
mod ValueReads
pub mod Texts
pub mod Equality
pub mod Extensions
pub mod PathOrder
pub mod Prefixes
pub mod ConfigurationLaws
mod Listed
