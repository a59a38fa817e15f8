-- Definitions of opgen_mult: the net of a product, a shifted node as output, and that a product has one net.
pub mod Recipe
pub mod Shifted
pub mod OneNet
