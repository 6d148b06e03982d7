pub mod Turned
pub mod Queries
pub mod Spans
