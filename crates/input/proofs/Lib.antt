pub mod ByteLaws
pub mod HeaderLaws
