mod Barren
mod Chains
mod LeafTypes
mod ByName
mod Shallows
pub mod Leaders
mod Circles
