-- A child of accepted files: its birth, a month of it, the months of a run, and its course up to a month.
pub mod Answers
pub mod Outcomes
pub mod Decoded
pub mod Birth
pub mod Month
pub mod Months
pub mod Course
pub mod Laws
pub mod Internal
