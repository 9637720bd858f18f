pub mod Numbered
pub mod Firsts
pub mod Making
pub mod Entering
