-- Words and states.
pub mod Words
