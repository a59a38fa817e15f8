-- Definitions of opgen_kcm: chunks of an input, the entries of their tables, and the multiple that the tables add to a heap.
pub mod Chunks
pub mod Entries
pub mod Recipe
pub mod Multiple
