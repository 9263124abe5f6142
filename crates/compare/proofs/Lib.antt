pub mod BesideLaws
pub mod ListLaws
pub mod RecordLaws
pub mod PassLaws
