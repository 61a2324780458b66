-- One step and its exact solution, in document 01's order.
pub mod Step
pub mod Solution
pub mod Internal
