-- Definitions of opgen_constdiv: the table that divides one digit, the net of the whole division, and what holds after each digit.
pub mod Rows
pub mod Recipe
pub mod Steps
