pub mod Found
pub mod Fronts
pub mod Records
pub mod Restarts
pub mod Starts
