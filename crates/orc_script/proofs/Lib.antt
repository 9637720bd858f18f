mod BasePaths
mod BodyTexts
pub mod CallLines
pub mod Grown
pub mod Lawful
mod Services
mod Placed
mod WholeScripts
pub mod ScriptLines
