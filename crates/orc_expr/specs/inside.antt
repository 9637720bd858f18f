pub mod Lists
pub mod Chosen
pub mod Following
pub mod Resolving
pub mod Covering
pub mod Reading
pub mod Grammar
