-- Definitions of opgen_saturate: the laws of saturation and of wrapping, the nodes that give a number another format, and the net of a
-- chosen width.
pub mod Law
pub mod Recipe
pub mod Converts
pub mod Output
pub mod Cases
pub mod Chosen
