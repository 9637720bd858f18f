pub mod Operations
pub mod Nodes
pub mod Links
pub mod Listings
