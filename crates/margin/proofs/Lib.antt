pub mod Margins
pub mod StepLaws
