pub mod RangeLaws
pub mod TallyLaws
pub mod TopLaws
pub mod DegreeLaws
pub mod RowLaws
pub mod OneTop
pub mod ApartLaws
pub mod GroupLaws
