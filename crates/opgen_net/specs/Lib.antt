-- Definitions of opgen_net: classes of cells, valid nets, the words of their nodes over time, appended nodes, and nodes of given bits.
pub mod Classes
pub mod Cells
pub mod Delays
pub mod Flow
pub mod Valid
pub mod Made
pub mod Named
pub mod WordRule
pub mod Grown
pub mod Placed
