pub mod RowTests
pub mod RowWithin
