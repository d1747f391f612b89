pub mod Indexed
pub mod InsertLaws
pub mod SortedLaws
pub mod LineRecordLaws
pub mod DeckLines
pub mod OneProof
