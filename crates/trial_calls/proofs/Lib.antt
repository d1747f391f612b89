pub mod CallLaws
pub mod EstimateFigures
pub mod RecordLaws
