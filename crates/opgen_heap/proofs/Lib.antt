pub mod Residues
pub mod Bits
pub mod Sums
pub mod Columns
pub mod Standing
pub mod Kept
pub mod Heaps
