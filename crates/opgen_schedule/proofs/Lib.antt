pub mod Reading
pub mod Equation
pub mod Least
pub mod Paths
pub mod Passes
pub mod Graphs
