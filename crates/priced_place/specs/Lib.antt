pub mod ObjectProblem
pub mod Prepared
