mod ComeLemmas
mod GivenLemmas
pub mod LogFacts
mod OneLog
mod ReadLemmas
