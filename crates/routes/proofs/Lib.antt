-- A month's sums as the code has them, and the laws of the sums.
pub mod MonthSums
pub mod RunSums
