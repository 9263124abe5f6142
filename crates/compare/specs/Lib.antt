pub mod Beside
pub mod Comparison
