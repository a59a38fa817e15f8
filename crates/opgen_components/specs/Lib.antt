-- Definitions of opgen_components: directed graphs, their strongly connected components, and the invariant of the walk.
pub mod Graph
pub mod Walk
