pub mod Margin
pub mod Laws
