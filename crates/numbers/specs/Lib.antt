pub mod Integer
pub mod Lists
pub mod NumberRows
pub mod Padded
