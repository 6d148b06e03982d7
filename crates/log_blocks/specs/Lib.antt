pub mod Blocks
pub mod Files
pub mod Reading
pub mod Scanning
