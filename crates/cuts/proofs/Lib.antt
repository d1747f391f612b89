pub mod MiddleLaws
pub mod NextLaws
pub mod BetweenLaws
pub mod CutRecordLaws
