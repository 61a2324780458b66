-- What leadline prints, as bytes, its lines one at a time, and its laws.
pub mod Printout
pub mod Kept
pub mod Lines
pub mod Prepared
pub mod Laws
pub mod Bench
