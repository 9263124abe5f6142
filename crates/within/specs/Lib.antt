pub mod Within
pub mod WithinAnswers
