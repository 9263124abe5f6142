pub mod BuildLaws
pub mod PlaceLaws
pub mod KeyLaws
pub mod TableLaws
