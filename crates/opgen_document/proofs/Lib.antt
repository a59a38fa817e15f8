-- Lemmas on documents.
mod Digits
pub mod Decimals
pub mod Trees
pub mod Ranges
pub mod Values
