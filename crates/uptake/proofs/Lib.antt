pub mod Absorbed
pub mod DayRoutes
pub mod ListSums
pub mod PassedIntakes
pub mod RouteSums
pub mod UptakeBounds
