-- Lemmas of the crate: the laws of the step, and the numbers that fit 64 bits.
pub mod DivisorMargin
pub mod Balance
pub mod Bounds
pub mod Burden
pub mod Assembly
