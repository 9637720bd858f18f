pub mod Machine
pub mod Fitted
pub mod Nodes
pub mod Faults
pub mod Expanding
