-- Lemmas of each kind of operator.
pub mod Sum
pub mod ProductWidths
pub mod Product
pub mod Pair
pub mod Single
pub mod Several
pub mod SmallDiv
pub mod Terms
pub mod Results
pub mod Poly
pub mod Taps
