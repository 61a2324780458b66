pub mod Decode
pub mod Decodes
pub mod ReadAnswers
pub mod ReadBack
pub mod RowsWithin
