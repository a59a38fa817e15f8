-- Definitions of opgen_tfir: the net of a transposed filter, and the sums that its nodes have.
pub mod Recipe
pub mod Steps
pub mod Sums
