pub mod RowWords
pub mod RollRows
pub mod TextRows
