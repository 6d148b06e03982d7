pub mod Has
pub mod Rolls
pub mod Held
pub mod Steps
