pub mod FindLaws
pub mod FactLaws
pub mod SearchLaws
pub mod BeginLaws
pub mod HeadLaws
pub mod RefuseLaws
