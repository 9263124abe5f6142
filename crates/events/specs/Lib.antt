pub mod Held
pub mod Run
