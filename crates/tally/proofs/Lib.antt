pub mod CountLaws
pub mod OverLaws
pub mod EveryLaws
pub mod CallLaws
