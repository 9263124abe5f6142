pub mod ShutLaws
pub mod ListLaws
pub mod LengthLaws
pub mod CallLaws
pub mod PlaceLaws
