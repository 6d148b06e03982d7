pub mod PageParts
pub mod Spelled
pub mod ReadAgain
pub mod HeadLaws
pub mod TellLemmas
pub mod EncodeLemmas
