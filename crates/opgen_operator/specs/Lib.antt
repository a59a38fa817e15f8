-- Definitions of opgen_operator: specifications, their ports, exact values, good outputs, and nets that fit.
pub mod Operator
pub mod Outputs
pub mod GivenNames
pub mod Valid
pub mod Fits
pub mod Held
pub mod Bounded
pub mod PortNames
pub mod Serves
