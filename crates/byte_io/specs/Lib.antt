pub mod Streams
pub mod Writing
pub mod Scripts
pub mod Wrappers
pub mod Buffers
