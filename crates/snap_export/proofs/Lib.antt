pub mod SeveralLemmas
pub mod LineLemmas
pub mod LabelLemmas
pub mod CompactLemmas
pub mod SavedLemmas
pub mod LawLemmas
pub mod MinusLemmas
pub mod PairLemmas
