mod Filled
pub mod Sizes
pub mod Chunks
pub mod Groups
mod TableLemmas
mod Taking
pub mod BlockLemmas
