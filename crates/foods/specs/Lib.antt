pub mod Names
pub mod Places
pub mod Figures
pub mod Limits
pub mod Foods
pub mod Laws
