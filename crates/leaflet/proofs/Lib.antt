pub mod Threes
pub mod FigureFields
pub mod PageLines
