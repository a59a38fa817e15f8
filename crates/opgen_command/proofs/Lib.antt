mod Numbers
mod Found
mod Meaning
mod Names
mod Added
