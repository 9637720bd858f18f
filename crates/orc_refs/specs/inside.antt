pub mod Kept
pub mod Shelves
pub mod Settling
pub mod Marks
pub mod Rivals
pub mod Plans
