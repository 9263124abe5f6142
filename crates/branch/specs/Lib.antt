pub mod Answers
pub mod Branch
