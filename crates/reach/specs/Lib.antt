pub mod Columns
pub mod ObjectReach
pub mod Held
