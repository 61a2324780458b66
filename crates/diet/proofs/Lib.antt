pub mod BenchDiet
pub mod DietBounds
pub mod TermBounds
