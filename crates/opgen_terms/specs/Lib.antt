-- Definitions of opgen_terms: what a sum of products means, by its terms.
pub mod Sop
