mod Writing
mod Turns
mod Fixed
