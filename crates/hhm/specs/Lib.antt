pub mod Options
pub mod Given
pub mod Asked
pub mod Reports
pub mod Logs
pub mod Serving
pub mod Served
