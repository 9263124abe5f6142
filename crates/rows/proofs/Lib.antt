pub mod FlatLaws
pub mod TurnLaws
pub mod VertexLaws
