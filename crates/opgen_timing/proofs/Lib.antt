mod Widest
pub mod Made
