-- What is proved of the kinds, kind by kind.
pub mod Sound
mod Sum
mod Product
mod Pair
mod Single
mod Several
mod SmallDiv
mod Poly
mod Taps
mod Sop
pub mod All
