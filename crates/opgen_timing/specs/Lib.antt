-- Definitions of opgen_timing: how wide a sum may be in a period, the net with its sums cut to a period, and what its plan returns.
pub mod Widths
pub mod Nets
pub mod Outcomes
