pub mod GivenLaws
pub mod PlaceLaws
pub mod DurableLaws
pub mod HeldLaws
