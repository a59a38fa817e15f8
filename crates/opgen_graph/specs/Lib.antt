-- Definitions of opgen_graph: what one adder makes, sets of adders and their graphs and costs, and the net of several constants.
pub mod Adders
pub mod Reach
pub mod Graphs
pub mod GraphLaws
pub mod SetCost
pub mod SignedDigits
pub mod Targets
pub mod Served
pub mod Residues
pub mod Recipe
pub mod Placing
pub mod Parts
pub mod Resting
