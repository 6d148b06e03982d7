pub mod Judging
pub mod LeftFields
pub mod Losses
pub mod PageFields
mod SealedLemmas
pub mod Unsealed
