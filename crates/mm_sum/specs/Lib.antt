pub mod Sum
pub mod Several
pub mod Running
pub mod Faults
pub mod Reading
pub mod Steps
