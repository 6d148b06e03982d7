pub mod Prefixes
pub mod Kept
pub mod LifeLaws
pub mod FirstLife
