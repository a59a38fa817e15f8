-- Definitions of opgen_gpc: which bits of a heap a larger counter takes, the nodes of the counters, and the sum that they keep.
pub mod Counters
pub mod Recipe
pub mod Kept
