pub mod Share
pub mod Steps
pub mod Laws
pub mod Internal
