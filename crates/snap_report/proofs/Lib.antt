pub mod CheckLemmas
pub mod FoldLemmas
pub mod KeptLemmas
pub mod JoinedLemmas
mod LoggedLemmas
mod MadeLemmas
