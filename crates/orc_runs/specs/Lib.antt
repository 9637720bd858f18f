pub mod Scripts
pub mod Ends
pub mod Runs
pub mod Starts
pub mod Serving
pub mod Headline
pub mod Laws
