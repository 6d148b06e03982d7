pub mod Checks
pub mod Folds
pub mod Kept
pub mod Made
pub mod Logged
pub mod Forks
