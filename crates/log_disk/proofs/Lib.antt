mod MemoryLemmas
pub mod Steps
