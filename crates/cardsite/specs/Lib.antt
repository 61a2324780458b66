-- A card over a site file: what becomes of a row, and the scenario that it runs with.
pub mod Over
pub mod Running
pub mod Start
pub mod Fields
pub mod RowExposure
pub mod Laws
pub mod Bench
