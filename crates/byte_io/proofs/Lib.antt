pub mod StreamLemmas
pub mod SinkLemmas
pub mod ScriptLemmas
pub mod KnownLemmas
pub mod WrapperLemmas
pub mod BufferLemmas
