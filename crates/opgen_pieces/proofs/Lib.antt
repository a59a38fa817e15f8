mod WordSums
mod Followed
pub mod Expressions
pub mod Making
pub mod Carrying
mod Passing
pub mod Whole
