-- A group of rows: what it answers, its law, and what its functions ask of each other.
pub mod Group
pub mod Given
pub mod Laws
pub mod Internal
