pub mod UnderLaws
pub mod ChoiceLaws
pub mod UndecidedLaws
pub mod TallyLaws
