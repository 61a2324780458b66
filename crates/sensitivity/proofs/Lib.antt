-- One medium's parts, the sums over the media, the bounds of n media, the laws, and days that reach them.
pub mod Parts
pub mod Sums
pub mod Bounds
pub mod Laws
pub mod Witness
