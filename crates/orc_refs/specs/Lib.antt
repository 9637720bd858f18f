pub mod Ids
pub mod Stores
pub mod Moves
pub mod Clashes
pub mod Live
pub mod inside
