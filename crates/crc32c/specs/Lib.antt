pub mod Remainders
pub mod Changes
pub mod Division
