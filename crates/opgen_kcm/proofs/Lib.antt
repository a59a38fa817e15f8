pub mod Bounds
pub mod ChunkWords
pub mod Multiples
pub mod Entries
pub mod Shapes
pub mod Kept
pub mod Narrow
pub mod Tables
