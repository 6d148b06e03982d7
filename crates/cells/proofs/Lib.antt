pub mod OrderLaws
pub mod AddUpLaws
pub mod SumLaws
pub mod HeldLaws
