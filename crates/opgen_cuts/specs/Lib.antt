-- Definitions of opgen_cuts: bits of wires, expressions over other nodes, nodes that are needed whole, the recipe, and what it keeps.
pub mod Wires
pub mod Renamed
pub mod Needed
pub mod Recipe
pub mod Stands
pub mod Same
