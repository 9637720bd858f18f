mod IdsLaws
mod PathLaws
mod TouchedLaws
mod MarkLaws
mod LentLaws
mod StoreLaws
mod RowLaws
mod PartLaws
mod ShelfLaws
mod ExactLaws
mod SettledLaws
mod LiveLaws
mod ClashLaws
mod PlannedLaws
mod EditLaws
mod Halves
pub mod ItemsLaws
mod OneStore
