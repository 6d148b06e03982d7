pub mod Frames
pub mod Looks
