pub mod Given
pub mod Logs
pub mod Outcomes
pub mod Scans
