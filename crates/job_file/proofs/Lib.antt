pub mod Parts
pub mod TextLaws
pub mod FileLaws
