pub mod RunLemmas
