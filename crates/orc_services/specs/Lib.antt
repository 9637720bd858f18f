pub mod Services
pub mod Expanded
pub mod Fitting
pub mod Laws
pub mod inside
