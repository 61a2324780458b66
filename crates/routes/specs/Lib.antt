-- The two gut routes of each month, as the printout shows them.
pub mod MonthlySums
pub mod Sums
pub mod Laws
pub mod Internal
