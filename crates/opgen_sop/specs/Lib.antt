-- Definitions of opgen_sop: the net of a sum of products, its numbers, the sum that its bits add up to, and that it is one net.
pub mod Sizes
pub mod Small
pub mod Recipe
pub mod Summed
pub mod OneNet
