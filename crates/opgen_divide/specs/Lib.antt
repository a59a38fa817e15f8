-- Definitions of opgen_divide: the net of a quotient, the signs in it, and what holds after each step of the division.
pub mod Sign
pub mod Inputs
pub mod Recipe
pub mod Steps
