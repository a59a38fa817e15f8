mod Law
mod Bits
mod Expressions
mod Groups
mod Logic
mod Rows
mod Joins
mod Outside
mod Ends
mod Resized
mod Decision
mod Tested
mod Limit
mod Lowest
mod Whole
mod Slices
pub mod ChosenNets
