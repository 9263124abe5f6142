pub mod DegreeLaws
pub mod LoopLaws
pub mod SetupLaws
pub mod AnswerLaws
pub mod OutcomeLaws
