pub mod Choices
pub mod Undecided
pub mod Tallies
