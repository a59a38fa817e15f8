-- Definitions of opgen_read: what reading a text returns, and what holds between the steps of the reader.
pub mod Gives
pub mod Places
pub mod Names
pub mod Rows
pub mod Seen
pub mod Reached
pub mod Stepped
pub mod Answer
pub mod Outcome
