pub mod DigitLaws
pub mod IntLaws
pub mod WrittenLaws
