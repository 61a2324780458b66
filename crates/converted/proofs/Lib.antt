pub mod SameUptake
pub mod SameChild
pub mod SameRows
pub mod SameAnswers
pub mod Conversions
