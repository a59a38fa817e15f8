mod PartialSums
pub mod Counted
mod Kept
mod Operands
mod HeapSums
pub mod Laws
