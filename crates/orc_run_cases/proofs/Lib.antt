pub mod WrongLines
pub mod WrongTurns
pub mod WrongRuns
pub mod Followed
