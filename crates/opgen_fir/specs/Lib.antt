-- Definitions of opgen_fir: the net of a scale or filter, and the sum that its tables add up to.
pub mod Recipe
pub mod Summed
