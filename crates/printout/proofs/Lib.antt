-- The months of a run, and the laws of the printout.
pub mod Bench
pub mod MonthsAtMost
pub mod FirstBytes
pub mod Columns
pub mod LinesAreWhole
