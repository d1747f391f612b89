pub mod Coordinates
pub mod DeckProblem
