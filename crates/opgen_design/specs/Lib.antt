-- Definitions of opgen_design: expressions and their values and widths, sound designs, cycles and runs, and how far back the outputs of a design look.
pub mod Tree
pub mod Plain
pub mod TreeCode
pub mod Value
pub mod Run
pub mod Sound
pub mod Rules
pub mod Order
pub mod Depth
