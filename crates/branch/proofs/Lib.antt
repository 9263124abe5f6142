pub mod PartLaws
pub mod ListLaws
pub mod StageLaws
pub mod CallLaws
