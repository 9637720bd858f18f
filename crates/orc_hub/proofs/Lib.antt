mod Dues
mod Encodable
mod Ranges
mod Standing
mod Checked
mod DecisionDue
mod Waiting
mod Commits
pub mod Submissions
mod Admissions
pub mod Asking
mod Closed
mod Lefts
mod Keeping
mod Settlings
pub mod Coming
mod AtStart
mod Wholly
pub mod Unsettling
pub mod Ending
mod EditsDue
mod Plainly
