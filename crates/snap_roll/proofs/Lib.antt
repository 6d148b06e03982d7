pub mod HasLemmas
pub mod RollLemmas
pub mod StepLemmas
pub mod TellLemmas
