pub mod Passed
pub mod Search
pub mod Answer
pub mod Refusals
