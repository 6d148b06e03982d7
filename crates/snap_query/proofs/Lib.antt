pub mod TurnLaws
pub mod LineLaws
pub mod RangeLaws
pub mod SpanLemmas
