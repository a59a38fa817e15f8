-- Definitions of opgen_bound: the least cost that threads share, what each pass knows of it, its invariant and its steps.
pub mod Views
pub mod Rule
pub mod Steps
pub mod Passes
