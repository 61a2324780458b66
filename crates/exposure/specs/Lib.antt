pub mod Exposure
pub mod Limits
pub mod Laws
