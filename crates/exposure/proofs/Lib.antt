pub mod ExposureWithin
