-- Definitions of opgen_document: the tree of a document, its keys with their types, and the values at them.
pub mod Keys
pub mod Document
pub mod Numbers
pub mod Decimals
pub mod Types
pub mod Ranges
