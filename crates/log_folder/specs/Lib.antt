pub mod Names
pub mod Memory
pub mod System
