pub mod TextLaws
pub mod Fits
pub mod ReportVectors
