pub mod Canonical
pub mod Fewest
pub mod Recoding
pub mod Existence
pub mod Sums
pub mod Filling
pub mod Members
pub mod StepUp
