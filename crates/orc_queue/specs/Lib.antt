pub mod Fitting
pub mod Queues
