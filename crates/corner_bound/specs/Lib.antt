pub mod ObjectCornerBound
