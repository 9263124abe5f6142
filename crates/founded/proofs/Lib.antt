pub mod OutputLaws
pub mod OutcomeLaws
pub mod CallLaws
pub mod DemandLaws
pub mod PlaceLaws
pub mod SameLaws
pub mod ShortLaws
