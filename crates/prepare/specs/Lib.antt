pub mod ProblemRecord
