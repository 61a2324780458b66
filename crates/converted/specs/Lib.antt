-- A site file that is converted between its two editions answers the same.
pub mod Laws
