pub mod Gathering
pub mod Classes
