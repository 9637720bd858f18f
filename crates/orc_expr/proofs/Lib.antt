mod NameBytes
pub mod Grows
pub mod Again
mod Wide
pub mod Ends
pub mod Parsed
mod Grammars
mod Taken
pub mod Sound
mod Covering
mod Shared
mod Touching
mod Choices
mod Followed
mod Resolves
