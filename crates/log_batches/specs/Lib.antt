pub mod Payloads
pub mod Tables
pub mod Held
