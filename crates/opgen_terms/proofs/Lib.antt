-- Lemmas on sums of products: each of their terms, sums over all terms, and what holds of their meaning.
pub mod EachTerm
pub mod AllTerms
pub mod Lawful
