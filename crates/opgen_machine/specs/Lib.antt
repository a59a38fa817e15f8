-- Definitions of opgen_machine: steps over a memory of numbers, where a design's words are in it, and when steps run a cycle.
pub mod Steps
pub mod Programs
pub mod Emit
pub mod Layout
pub mod Laid
pub mod Settles
pub mod Moves
pub mod Machines
