pub mod Agreeing
mod Untouched
mod FirstClash
mod Unread
mod Standing
mod Enough
mod Unrefused
mod Together
