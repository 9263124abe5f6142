pub mod Bytes
pub mod Input
