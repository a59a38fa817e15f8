mod Rounds
mod Delays
mod WeightedSums
mod Factors
mod Summed
mod Narrow
mod Good
mod Fits
mod Steps
pub mod Whole
