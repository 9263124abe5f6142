pub mod Answered
pub mod Report
