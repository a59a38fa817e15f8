-- Definitions of opgen_shared: graphs of adders that many numbers share, the adders of their signed digits, and the rule, which
-- leaves one graph.
pub mod Shared
pub mod Digits
pub mod Levels
pub mod Sums
pub mod Rule
pub mod Steps
