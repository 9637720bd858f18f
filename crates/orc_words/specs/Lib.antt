pub mod Interface
pub mod Numbers
pub mod Words
pub mod Laws
