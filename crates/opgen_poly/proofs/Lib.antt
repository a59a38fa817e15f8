mod Sizes
mod Cores
pub mod Cuts
mod Terms
mod Values
mod StepLaws
mod FirstLaws
mod Runs
pub mod Fits
