mod Barren
pub mod Blocks
mod TypeFaults
mod Numerals
mod ChildNames
mod Marks
mod Uses
pub mod Seens
pub mod Words
pub mod Either
mod Among
