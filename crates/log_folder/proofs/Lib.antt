mod Fresh
mod Heads
mod MemoryLemmas
