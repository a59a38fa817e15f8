-- Definitions of opgen_mcm: the products that the outputs have.
pub mod Products
