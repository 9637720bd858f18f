mod Causes
pub mod Changes
mod Counts
pub mod Endings
pub mod Synced
mod Operations
mod Openings
mod Pieces
mod Loading
mod Devices
mod Intents
mod Fronts
mod Headers
pub mod Orderings
mod JournalsRead
pub mod Unique
pub mod Accepted
mod Verdicts
mod Rules
mod Pushed
mod Appending
mod LeftBehind
pub mod Puts
mod TornFiles
pub mod Newest
mod Leaving
mod Outcomes
pub mod Armed
pub mod AppendOutcomes
pub mod AppendRows
pub mod Until
