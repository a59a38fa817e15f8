-- Definitions of test_parts: the sum of two nodes. The other definitions of its tests are those of other crates.
pub mod Sums
