pub mod Joins
pub mod Entries
