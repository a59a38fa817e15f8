-- Definitions of opgen_target: tables of delays, ledgers, and the two targets of the program.
pub mod Delays
pub mod Ledger
pub mod Program
pub mod Tables
