-- What the engine's calls mean, in document 01's order.
pub mod Birth
pub mod Month
pub mod Run
pub mod Internal
