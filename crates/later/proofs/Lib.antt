pub mod ReadLaws
pub mod ServeLaws
pub mod ResetLaws
pub mod BeginLaws
pub mod SeedLaws
