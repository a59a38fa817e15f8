-- Definitions of opgen_laws: what holds of every correct answer, circuit, line and design, whatever the program does, and when good rows
-- are a certificate of a design.
pub mod Answers
pub mod Causes
pub mod Certificates
pub mod Circuits
pub mod Lines
pub mod Verdict
pub mod Workloads
