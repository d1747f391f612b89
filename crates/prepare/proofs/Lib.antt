pub mod JobProblem
pub mod MadeProblem
