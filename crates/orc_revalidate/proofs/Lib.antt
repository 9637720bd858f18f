pub mod Members
mod Rowed
mod Sames
mod Uncut
mod Instances
mod Entered
mod Fronted
mod Standing
mod Unbounded
mod Seen
mod Within
mod Genuine
mod Least
mod Differing
