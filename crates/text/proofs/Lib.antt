pub mod DecimalLaws
pub mod DecimalRows
pub mod NumeralLaws
pub mod KeyLaws
pub mod DigitLaws
pub mod SignLaws
pub mod DigitCounts
