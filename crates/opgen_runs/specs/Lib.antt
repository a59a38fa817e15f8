-- Definitions of opgen_runs: drivers evaluated in order, one step of a design, its runs over rows, and that it has one run.
pub mod Fitting
pub mod Tables
pub mod Evaluate
pub mod Step
pub mod Steps
pub mod Registers
pub mod OneRun
pub mod Rows
