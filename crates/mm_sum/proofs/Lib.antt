pub mod SumLemmas
pub mod ReadLemmas
pub mod CountLemmas
pub mod ListLemmas
pub mod TextsLemmas
