-- Demand 3, the other laws of the calls, and the bench figures.
pub mod Conservation
pub mod Laws
pub mod Bench
pub mod Witness
