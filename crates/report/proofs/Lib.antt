pub mod CallLaws
pub mod InputLaws
pub mod ExampleLaws
