pub mod Regions
pub mod Start
