pub mod Diet
pub mod Laws
pub mod Bench
