pub mod Kinds
pub mod Nodes
pub mod LinkStates
pub mod Lending
pub mod Held
pub mod inside
pub mod Laws
