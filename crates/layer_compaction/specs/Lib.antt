pub mod Shared
pub mod Runs
pub mod Steps
pub mod Due
