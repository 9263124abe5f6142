pub mod EditionLaws
pub mod EqualLaws
