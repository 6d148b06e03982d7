pub mod PlaceLaws
pub mod WalkLaws
pub mod LoopLemmas
