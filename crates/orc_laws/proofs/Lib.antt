mod Overlays
mod Data
mod Traces
mod Removals
mod Lone
mod Made
mod Presence
mod EntryWrites
