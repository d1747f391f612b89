pub mod Ascii
pub mod Numeral
pub mod Decimal
pub mod DecimalRows
pub mod TextReading
