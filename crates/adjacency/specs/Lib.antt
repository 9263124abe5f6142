pub mod Tables
pub mod Building
