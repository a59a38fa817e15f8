mod TableRows
mod Division
mod Whole
pub mod Fits
