pub mod Differences
pub mod Expressions
pub mod Digit
pub mod Outputs
pub mod Results
