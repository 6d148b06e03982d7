pub mod Filter
