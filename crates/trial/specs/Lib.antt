pub mod Ranges
pub mod Opened
pub mod Trial
