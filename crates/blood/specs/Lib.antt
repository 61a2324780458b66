pub mod Birth
pub mod Blood
pub mod Laws
