pub mod KeepLaws
pub mod RowingLaws
pub mod WeightLaws
pub mod SourceLaws
pub mod RoomLaws
pub mod RoleLaws
pub mod PartingLaws
