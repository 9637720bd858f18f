mod Finding
mod Conflicts
mod Checking
mod Committing
mod Writing
mod Fronts
mod OneConflict
mod Ready
pub mod Equality
mod Repeats
mod Replaying
