pub mod Layout
pub mod Views
pub mod Rooms
