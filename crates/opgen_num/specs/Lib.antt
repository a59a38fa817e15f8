-- Definitions of opgen_num: words and their numbers, operations on them, formats, floors of fractions, nearest whole numbers,
-- and good roundings.
pub mod Words
pub mod WordLaws
pub mod Formats
pub mod Rounding
pub mod Floors
