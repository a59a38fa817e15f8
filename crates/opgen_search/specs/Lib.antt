-- Definitions of opgen_search: the space of sets, its parts, the least set, the invariants of the search, and the net by that set.
pub mod Space
pub mod Parts
pub mod Least
pub mod Covered
pub mod Members
pub mod Nodes
pub mod Hunts
pub mod Forks
pub mod Recipe
