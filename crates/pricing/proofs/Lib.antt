pub mod ColumnLaws
pub mod ObjectLaws
pub mod PricedWords
pub mod SpareLaws
pub mod TurnLaws
