pub mod Renames
pub mod WireBits
pub mod Marks
pub mod Late
pub mod State
pub mod Node
pub mod Sums
pub mod Operands
pub mod Copies
pub mod Start
pub mod Law
mod Worked
