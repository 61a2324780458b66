pub mod CardBench
pub mod FirstBytes
pub mod GroupLines
