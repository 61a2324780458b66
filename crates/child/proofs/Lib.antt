pub mod BornAnswers
pub mod CourseInRun
pub mod CourseMonths
pub mod CourseSteps
pub mod MonthAnswers
pub mod RunLoop
