pub mod Held
pub mod Numbering
pub mod Slots
pub mod Live
pub mod Steps
