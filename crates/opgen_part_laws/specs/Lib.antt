-- Definitions of opgen_part_laws: which format is the least one, when two filters mean the same, that constants have a net, and which
-- designs show one row of inputs.
pub mod Aligned
pub mod SearchedNets
pub mod WholeCoefficients
