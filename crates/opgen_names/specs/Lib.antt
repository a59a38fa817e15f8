-- Definitions of opgen_names: which names the VHDL subset accepts.
pub mod Names
