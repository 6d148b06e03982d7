pub mod Grammar
pub mod MatrixText
