pub mod StandLaws
pub mod ListLaws
