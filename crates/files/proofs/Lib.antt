pub mod Decodes
pub mod FilesPassed
pub mod FirstBytes
pub mod ReadAnswers
