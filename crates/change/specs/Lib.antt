pub mod Change
pub mod ChangedRecord
pub mod Meaning
