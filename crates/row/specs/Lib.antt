pub mod Row
pub mod Limits
pub mod Laws
