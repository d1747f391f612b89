pub mod DeckLaws
pub mod SoundLaws
