pub mod BestPlace
pub mod CutCell
pub mod LiveCells
pub mod Running
pub mod Answer
