pub mod Expanded
mod Written
pub mod Planning
pub mod Named
pub mod Agreement
pub mod Trees
mod TypedTrees
pub mod Bases
pub mod Placed
mod Touching
pub mod DataLaws
pub mod Blank
pub mod LeastClash
mod Kept
mod Ranges
pub mod Legality
mod OnDevice
mod Clashing
mod Placing
mod Wholes
mod Devices
mod Once
mod Previews
mod Comes
mod Writers
mod Openings
mod Changing
mod Literals
mod Alone
pub mod Residents
pub mod Sighting
mod Entering
mod Numbers
mod Spreading
mod Marking
