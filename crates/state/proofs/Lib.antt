pub mod SoundState
pub mod StateCheck
