-- Definitions of opgen_ports: ports and their numbers, ranges and limits, shifts, how far numbers go, odd parts, good roundings,
-- names, modes, recipes; what a kind means, and which operators are accepted.
pub mod SpecName
pub mod OddParts
pub mod Ranges
pub mod Reaches
pub mod Ports
pub mod Limits
pub mod Modes
pub mod Recipes
pub mod Good
pub mod Spans
pub mod In128
pub mod Meaning
pub mod Acceptance
pub mod Accepted
pub mod Profile
