-- Definitions of opgen_entries: the kinds of a document, what it says of each, and which keys stand in it.
pub mod Entry
pub mod kinds
pub mod Stands
