pub mod TakeLaws
pub mod FollowLaws
pub mod StatusLaws
