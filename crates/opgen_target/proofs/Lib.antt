pub mod Charging
pub mod Lists
pub mod FixedTable
