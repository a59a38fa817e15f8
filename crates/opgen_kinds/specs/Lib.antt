-- Definitions of opgen_kinds: what each kind of operator means, in a file for each type of its fields.
pub mod Sum
pub mod Product
pub mod Pair
pub mod Single
pub mod Several
pub mod SmallDiv
pub mod Horner
pub mod Poly
pub mod Taps
