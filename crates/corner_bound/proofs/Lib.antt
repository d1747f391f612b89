pub mod LoadLaws
pub mod SpanLaws
pub mod CornerLaws
