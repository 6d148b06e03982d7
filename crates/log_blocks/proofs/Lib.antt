pub mod Counts
pub mod FilePages
pub mod ScanLemmas
pub mod Sound
pub mod Torn
