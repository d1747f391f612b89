pub mod Form
pub mod Kinds
pub mod OneLine
pub mod Reading
