-- The roll of a group: its words, its rows and its laws.
pub mod Words
pub mod Kind
pub mod Read
pub mod Blank
pub mod Enrolled
pub mod RowsTaken
pub mod Enrol
pub mod Internal
pub mod Laws
