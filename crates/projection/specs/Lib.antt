pub mod Narrowed
pub mod Narrowing
pub mod Roles
