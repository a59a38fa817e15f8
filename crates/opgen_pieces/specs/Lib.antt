-- Definitions of opgen_pieces: the nodes of a sum in pieces, and what its bits are.
pub mod Recipe
pub mod Law
pub mod Run
