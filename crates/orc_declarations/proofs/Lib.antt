mod Added
mod Bundles
mod CopiedStatements
mod DeclarationWords
pub mod DeclaredLines
mod Lawful
mod LongNames
pub mod Opened
mod TemplateTexts
mod SchemaFaults
mod ServiceLists
mod Tables
