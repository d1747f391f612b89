pub mod NarrowLaws
pub mod ExcessLaws
pub mod ReachLaws
pub mod RowLaws
pub mod RecordLaws
