mod Faithful
mod InputWords
mod HeapWidth
mod Rounding
mod AboveZeros
mod Fits
mod NetFits
pub mod Whole
