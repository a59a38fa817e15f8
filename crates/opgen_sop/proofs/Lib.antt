mod Nearness
mod CutRows
mod InputNodes
mod Sizes
mod TermSums
mod ScaledTerm
mod ProductTerm
mod Steps
mod AcceptedTerms
mod GuardBits
mod Fits
pub mod Whole
