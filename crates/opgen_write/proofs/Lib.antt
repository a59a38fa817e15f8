mod Bits
mod Lexing
mod Words
mod Expressions
mod Places
mod Fitting
mod Drivers
mod Leading
mod Declarations
mod Bodies
mod Writable
pub mod Designs
pub mod Lengths
mod Paging
