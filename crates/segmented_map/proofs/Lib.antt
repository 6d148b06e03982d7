pub mod Positions
pub mod SegmentLaws
pub mod MapLaws
