pub mod Known
pub mod Orders
