-- Lemmas on what a document says of a kind: inputs by their names, arrays that are not out of range.
mod InputNames
mod Filled
pub mod Arrays
