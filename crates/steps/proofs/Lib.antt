pub mod Loops
pub mod ShareSum
pub mod Shares
