-- Definitions of opgen_digits: one digit of a quotient or root, and the outputs that are made of such digits.
pub mod Digit
pub mod Results
