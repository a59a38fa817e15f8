-- Definitions of opgen_lex: the first token of a text, how far a text was cut into tokens, why a text has no list of tokens, the
-- symbols that are left to read, where a piece ends, and what is relied on in a token.
pub mod Fault
pub mod First
pub mod Fits
pub mod Left
pub mod PieceLen
