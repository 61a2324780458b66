-- What leadcard prints, as bytes, a group of lines at a time, and its laws.
pub mod Cardline
pub mod Groups
pub mod Internal
pub mod Laws
pub mod Bench
