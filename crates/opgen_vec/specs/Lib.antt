-- Definitions of opgen_vec: files of vectors, their reading and writing, drawn stimuli, and rows of outputs that are good.
pub mod Rows
pub mod Digits
pub mod Reading
pub mod Writing
pub mod Fault
pub mod Stimulus
pub mod Streams
pub mod GoodRow
pub mod Worked
