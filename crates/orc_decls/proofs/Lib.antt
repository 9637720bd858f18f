pub mod Lists
pub mod NameTexts
pub mod Fits
pub mod Declared
pub mod SchemaPlaces
mod PutOrder
