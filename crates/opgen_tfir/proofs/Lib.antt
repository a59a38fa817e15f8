pub mod Zeros
pub mod Widths
pub mod Floors
pub mod Chains
pub mod Steps
pub mod Values
pub mod Filters
