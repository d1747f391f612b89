pub mod LineCounts
pub mod EstimateLaws
