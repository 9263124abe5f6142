pub mod AcceptEdges
pub mod SearchLaws
pub mod RowLaws
pub mod RefusedLaws
pub mod AcceptedLaws
pub mod PlaceLaws
