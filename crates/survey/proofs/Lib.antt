pub mod RowAnswers
pub mod RowLaws
