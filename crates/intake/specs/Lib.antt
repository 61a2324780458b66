pub mod Intake
pub mod Laws
pub mod Bench
