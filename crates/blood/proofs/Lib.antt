pub mod BirthAmounts
pub mod FigureFits
