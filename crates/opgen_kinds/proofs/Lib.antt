-- Lemmas on kinds of operators: how wide ports are, and in of_kind those of each kind.
pub mod PortWidths
pub mod of_kind
