pub mod CallAnswers
pub mod FilesDecoded
pub mod RunCourse
