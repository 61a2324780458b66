pub mod Figures
pub mod Grouped
pub mod Leaflet
pub mod Internal
