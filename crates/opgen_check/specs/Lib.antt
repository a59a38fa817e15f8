-- Definitions of opgen_check: the ports that a specification asks of a design, and the verdict on the rows of its run.
pub mod Ports
pub mod Verdict
