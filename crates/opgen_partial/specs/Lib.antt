-- Definitions of opgen_partial: the partial products of two factors in a bit heap, and what they add to its sum.
pub mod Recipe
pub mod Law
