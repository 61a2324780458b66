pub mod Bench
pub mod Fits
pub mod Home
pub mod Refusal9
