-- Definitions of opgen_spec: the documents of which circuits are made, the first error of a document, and the specification
-- that it gives.
pub mod Spec
pub mod Made
pub mod Faults
pub mod Texts
pub mod Written
