-- Definitions of opgen_compress: adders, the nodes of a compressor tree, and the sum that compression keeps.
pub mod Adder
pub mod Recipe
pub mod Kept
