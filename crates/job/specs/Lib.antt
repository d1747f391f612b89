pub mod Reader
pub mod Format
pub mod Spelling
pub mod File
pub mod Meaning
pub mod JobRecord
pub mod JobVectors
pub mod ManyLines
