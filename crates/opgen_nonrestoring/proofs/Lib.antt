mod Widths
mod Classes
mod Words
mod Numbers
mod Recurrences
mod Made
mod Steps
mod Stands
mod Finished
pub mod Divided
