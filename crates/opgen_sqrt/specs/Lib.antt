-- Definitions of opgen_sqrt: the net of a square root, and what holds after each step.
pub mod Recipe
pub mod Steps
