mod BlockLines
pub mod CanonicalItems
pub mod Cuts
pub mod DataPaths
pub mod Explained
mod KeptPaths
pub mod Keywords
pub mod Lawful
mod ListPaths
pub mod LinesOf
pub mod Numbers
mod NumberedNames
mod RepeatedNames
pub mod Rules
pub mod SchemaPlaces
mod Utf8
mod WordCuts
