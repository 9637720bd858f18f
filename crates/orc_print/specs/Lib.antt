pub mod Causes
pub mod Printed
pub mod Logs
pub mod inside
