pub mod LastMonths
pub mod GroupCourses
pub mod AnswerWords
pub mod GroupAnswers
pub mod GroupDecodes
