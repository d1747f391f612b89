pub mod ObjectFigures
pub mod Spared
