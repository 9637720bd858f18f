mod Changes
mod Edits
mod Listed
mod Performing
mod Rooms
mod Taken
mod Kept
mod Sound
