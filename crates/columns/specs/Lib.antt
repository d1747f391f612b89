pub mod Columns
pub mod Objects
pub mod ObjectColumns
pub mod ClosestSoFar
pub mod Ranges
pub mod StopFigures
pub mod Held
