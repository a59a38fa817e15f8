-- Definitions of opgen_budget: sums over bit places, and the columns of a product.
pub mod Sums
pub mod Columns
