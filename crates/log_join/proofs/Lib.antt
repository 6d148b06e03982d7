pub mod PlaceLemmas
pub mod FreshLemmas
pub mod JoinLemmas
pub mod OutcomeLaws
