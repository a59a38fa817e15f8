mod Drawn
pub mod Valid
pub mod Counting
mod OnePort
