pub mod Values
pub mod DeckOf
pub mod Sound
pub mod Ranges
