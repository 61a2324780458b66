pub mod ConvertAnswers
pub mod Conversions
