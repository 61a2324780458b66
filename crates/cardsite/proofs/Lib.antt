pub mod CardBench
pub mod Limited
pub mod Starts
pub mod RowLaws
pub mod RowValues
