pub mod Numbered
pub mod Logs
pub mod Askers
pub mod Due
pub mod inside
pub mod Pasts
