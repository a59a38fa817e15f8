mod Firsts
mod Operands
mod Reduced
mod Heights
mod Passed
mod Ones
mod Finished
pub mod Compressing
