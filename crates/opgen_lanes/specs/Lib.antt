-- What it means to run a design in 256 streams.
pub mod Words
pub mod Banks
pub mod Chains
pub mod Steps
pub mod Runs
pub mod Ready
pub mod Tables
