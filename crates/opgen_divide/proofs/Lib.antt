mod Arithmetic
mod Opposites
mod Signed
mod Absolutes
mod Steps
mod Divisions
mod Finished
mod Outputs
pub mod Whole
