pub mod Ramps
pub mod Cheapest
