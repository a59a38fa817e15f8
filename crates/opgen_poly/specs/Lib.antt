-- Definitions of opgen_poly: the net of a polynomial by Horner's rule, and how near its partial values are to the exact ones.
pub mod Recipe
pub mod Near
