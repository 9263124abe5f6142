pub mod RowsLaws
pub mod WalkLaws
pub mod PassLaws
pub mod StageLaws
