-- Lemmas on operators and specifications.
pub mod Listed
pub mod Named
pub mod Operators
pub mod Accepted
pub mod Valued
pub mod EachMode
pub mod Specs
pub mod PortNames
pub mod Shown
