-- Definitions of opgen_vhdl: tokens, grammar and places of the VHDL subset, the design that a text spells, and the text of a
-- design.
pub mod Tokens
pub mod Fronts
pub mod ExpressionText
pub mod DesignText
pub mod Shaped
pub mod Symbols
pub mod Grammar
pub mod Statements
pub mod Spelled
pub mod Reader
