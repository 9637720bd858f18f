mod ReadBack
mod Inside
mod Fixed
mod Answered
mod Told
mod Cutting
mod Doubled
mod CutAgain
mod CutSoFar
mod InBraces
mod Handed
mod Entries
mod Whens
mod Forms
mod Faulty
mod FirstFaults
mod Placing
mod Targets
mod Fors
mod Moved
mod Adding
pub mod TypedWays
mod TypedPuts
mod TypedWritten
mod FaultNames
pub mod Texts
