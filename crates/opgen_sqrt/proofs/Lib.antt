mod Arithmetic
mod Steps
pub mod Whole
