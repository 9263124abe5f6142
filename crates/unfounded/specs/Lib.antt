pub mod Unproduced
