mod Reading
mod Fine
mod ArrayLines
mod Versions
mod Made
mod Known
mod Ranges
mod Compressors
mod Writing
mod InputLines
mod Searches
mod sound
mod Chosen
mod Fourth
pub mod Validity
mod Written
pub mod Readings
