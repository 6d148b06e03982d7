pub mod Fronts
pub mod Within
