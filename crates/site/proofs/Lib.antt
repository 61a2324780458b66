pub mod FieldTests
pub mod FieldsWithin
pub mod PlaceLimits
pub mod Editions
pub mod PutFits
pub mod ReadAnswers
pub mod SiteBodies
pub mod ReadBack
