pub mod FigureTests
pub mod FiguresWithin
pub mod ReadAnswers
pub mod ReadBack
