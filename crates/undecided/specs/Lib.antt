pub mod Answers
pub mod Lists
