pub mod RegionLaws
pub mod BackLaws
pub mod FillLaws
pub mod InitialLaws
pub mod StartLaws
