pub mod WordByWord
pub mod Places
pub mod Rows
pub mod RowsInStreams
pub mod Gathered
pub mod Unpacked
