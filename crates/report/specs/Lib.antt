pub mod Report
pub mod Text
pub mod Limits
pub mod ReportVectors
