-- Definitions of opgen_sim: a new simulator, what runs a design, its tables by address, its cycles, numbers and rows of them at its
-- ports, and ranks that count registers.
pub mod Ranks
pub mod Tables
pub mod Ready
pub mod Engines
pub mod Sims
pub mod Runs
pub mod Rows
pub mod Numbers
