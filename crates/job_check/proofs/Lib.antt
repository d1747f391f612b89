pub mod AxisLaws
pub mod CheckLaws
pub mod FileFaults
pub mod FirstFault
pub mod LineLoops
pub mod ShortLaws
