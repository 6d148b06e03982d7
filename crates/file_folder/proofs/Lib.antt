pub mod FileLemmas
pub mod RunLemmas
pub mod MemoryLemmas
