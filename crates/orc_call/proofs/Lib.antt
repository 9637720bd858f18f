mod Grammars
pub mod Singles
pub mod Sequels
mod Lists
mod Determined
pub mod ActionKinds
mod Prefixes
pub mod Written
mod Elements
mod Counts
