pub mod BelowLemmas
pub mod CascadeLaws
pub mod CutLemmas
pub mod KeptLemmas
pub mod StepLemmas
pub mod RowEntryLemmas
