pub mod Latest
pub mod Finished
pub mod Cursors
pub mod Walking
