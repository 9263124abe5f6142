pub mod Scores
pub mod Said
