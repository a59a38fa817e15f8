mod Underscores
pub mod LowerCase
