mod Taking
mod Tables
pub mod Counting
