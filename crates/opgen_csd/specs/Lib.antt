-- Definitions of opgen_csd: canonical signed digits, their partial sums, and the laws on both.
pub mod Digits
pub mod Partials
pub mod Laws
