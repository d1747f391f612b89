pub mod RespondLaws
pub mod EntryLaws
pub mod ExhaustiveLaws
pub mod SavingLaws
