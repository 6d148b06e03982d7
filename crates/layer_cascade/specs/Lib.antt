pub mod Cascade
pub mod Cuts
pub mod Layering
pub mod Stored
pub mod Columns
