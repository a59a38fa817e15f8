-- Definitions of opgen_io: files by name, what fetching and storing change, bytes that a sink took, and counts of puts and
-- errors.
pub mod Bytes
pub mod Counted
pub mod Counts
pub mod Disk
pub mod Fetched
pub mod Files
pub mod Memory
