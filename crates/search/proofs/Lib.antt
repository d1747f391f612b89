pub mod BestLaws
pub mod CutParts
pub mod LiveLaws
pub mod RoundLaws
pub mod RunLaws
pub mod DeckRun
