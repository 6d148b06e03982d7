pub mod LeftPages
pub mod Lines
pub mod Fronts
pub mod Found
pub mod Salvages
pub mod Reported
